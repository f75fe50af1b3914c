-- The promises of specs/Promises, proved of what the definitions of the public calls give.
-- Not here: demand 1, which is in ReadCalls (reading, checking, closing, writing) and RunCalls (runs).
use Prim.Native.Nat.{ℕ, ◌≤◌}
use native.Mathlib.Omega.{arith}
use mathlib.Core.Path.{◌≡◌, refl, sym, ap, ◌∙◌, subst}
use mathlib.Core.Bool.{Bool, true, false, cond}
use mathlib.Core.List.{List, []}
use mathlib.Core.Option.{Option, some}
use lib.Dec.{eqb}
use lib.ListN.{length}
use borrow.Author.Tests.{eq-eqb, ne_eqb}
use Rattle.cofj.specs.Limits.{standard, part_count}
use Rattle.cofj.specs.Syntax.{Table}
use Rattle.cofj.specs.TypingRules.{REFUSAL-6, REFUSAL-7}
use Rattle.cofj.specs.Values.{Ref, leaf, mark, undet, Graph, graph, close, mark_of, undetermined, number_of}
use Rattle.cofj.specs.Running.{Outcome, run, run_within}
use Rattle.cofj.specs.Reading.{read, read_text}
use Rattle.cofj.specs.Soundness.{Ends, EndsListed, Sound, SoundListed}
use Rattle.cofj.specs.Formed.{Good, IfAny, Out}
use Rattle.cofj.specs.Report.{report_of, fuel_of}
use Rattle.cofj.specs.ReportForm.{reported, Reportable}
use Rattle.cofj.specs.RunningRules.{RunsTo}
use Rattle.cofj.specs.Calls.{input_in, with_fuel, Call, Ran, ended, run_call}
use Rattle.cofj.specs.Promises.{Program, Lent, Feeds, Answers, refuses, runs, Follows, Demand2, input_for, ending, Kept, Demand3, Recuts, Recut, Canonical, Reports}
use Rattle.cofj.proofs.Readable.{read_formed}
use Rattle.cofj.proofs.Sound.{sound}
use Rattle.cofj.proofs.Reached.{sound_listed}
use Rattle.cofj.proofs.Reports.{run_reportable, reports_same, same_reports, report_round, report_back, report_injective}
use Rattle.cofj.proofs.CheckRules.{check_sound, check_complete, judged_complete}
use Rattle.cofj.proofs.RunningRules.{run_sound, run_complete, run_total}
use Rattle.cofj.proofs.RoundTrip.{read_writes, written_reads, refused_exactly_lem}
use Rattle.cofj.proofs.Canon.{canon_same}
use Rattle.cofj.proofs.Unique.{same_canon, canon_tree}
use Rattle.cofj.proofs.Runs.{good_run}
use Rattle.cofj.proofs.Operations.{select_tree, close_tree, make_top, make_field}
use Rattle.cofj.proofs.SideConditions.{open_some, open_none}
use Rattle.cofj.proofs.Inputs.{feeds_feed, feeds_fed, recut_feeds}
use Rattle.cofj.proofs.RunCalls.{run-standard, run-reported, ends_in_lem, refusals, answers}

-- ---- demand 2
pub demand2 : Demand2
demand2 =
    record {
      checks = λ s t u r. let h = (read_formed s t r).parents in (check_sound t h u, check_complete t h u);
      runs = λ l t i n o. (λ e. subst (RunsTo l t i n) e (run_sound l t i n), λ h. run_complete l t i n h);
      total = run_total;
      text_round = read_writes;
      table_round = written_reads;
      refused_exactly = refused_exactly_lem;
    }

pub follows : (a : Call) → Follows a (run_call a)
follows a =
    record {
      typed = λ t u i o l e p g r. ends_in_lem o a (run_call a)
          ((refusals a).accepts t u i l e (check_complete t (read_formed a.text t e).parents u p) g ∙ ap (λ (y : Outcome Graph). ended y a) (is t i o r));
      tried = λ t i o l m e g r. ends_in_lem o a (run_call a) ((refusals a).tries t i l m e g ∙ ap (λ (y : Outcome Graph). ended y a) (is t i o r));
      six = λ t d l m e k h. (refusals a).untyped t 6 l m e (judged_complete t (read_formed a.text t e).parents (REFUSAL-6 k h));
      seven = λ t l m e ps h. (refusals a).untyped t 7 l m e (judged_complete t (read_formed a.text t e).parents (REFUSAL-7 ps h));
    }
  where
    is : (t : Table) (i : Option Graph) (o : Outcome Graph) → RunsTo standard t i a.session.fuel o → run t i a.session.fuel ≡ o
    is t i o r = sym (run-standard t i a.session.fuel) ∙ run_complete standard t i a.session.fuel r

-- ---- demand 3
-- a call that answers 0: it was lent what it needs, its text is read, and its second text gives the table an input
pub record Accepted (a : Call) : Type 0 where
  pub table : Table
  pub input : Option Graph
  pub lent : Lent a
  pub reads : read_text a.text ≡ read table
  pub feeds : Feeds table a.input input
  pub ends : run_call a ≡ ended (run table input a.session.fuel) a

pub accepted_call : (a : Call) → (run_call a).answer.refusal ≡ 0 → Accepted a
accepted_call a e = go (run_call a) refl (answers a) e
  where
    go : (x : Ran) → run_call a ≡ x → Answers a x → x.answer.refusal ≡ 0 → Accepted a
    go x p (refuses k h m q) z = let y : k ≡ 0 = sym (ap (λ (r : Ran). r.answer.refusal) q) ∙ z in absurd (omega arith)
    go x p (runs t i l q g r) z = record { table = t; input = i; lent = l; reads = q; feeds = g; ends = p ∙ r }

-- one text is read as one table
one_table : (s : List ℕ) (t u : Table) → read_text s ≡ read t → read_text s ≡ read u → t ≡ u
one_table s t u p q = let y : read t ≡ read u = sym p ∙ q in cc

-- the second text of an accepted program that is not refused gives what `input_for` says
feeds_input : (a : Call) (p : Program a.text) → Accepted a → Feeds p.table a.input (input_for a p)
feeds_input a p h =
    let g = subst (λ (t : Table). Feeds t a.input h.input) (one_table a.text h.table p.table h.reads p.reads) h.feeds in
    subst (Feeds p.table a.input) (sym (ap input_in (feeds_feed p.table (read_formed a.text p.table p.reads) a.input h.input g))) g

kept : (a : Call) (p : Program a.text) → (run_call a).answer.refusal ≡ 0 → Kept a p (run_call a)
unfolding Sound SoundListed
kept a p e =
    let t = p.table in
    let i = input_for a p in
    let wf = read_formed a.text t p.reads in
    let h = accepted_call a e in
    let g = feeds_input a p h in
    let f = feeds_fed t wf a.input i g in
    let s = run-standard t i a.session.fuel in
    record {
      feeds = g;
      fed = f;
      ends_in = ends_in_lem (ending a p) a (run_call a) ((refusals a).accepts t p.type i h.lent p.reads p.accepts g);
      ends = subst (Ends t p.type) s (sound standard t i p.type a.session.fuel wf f p.accepts);
      listed = subst (EndsListed t p.type) s (sound_listed standard t i p.type a.session.fuel wf f p.accepts);
    }

pub demand3 : (a b : Call) (p : Program a.text) (q : Program b.text) → (run_call a).answer.refusal ≡ 0 → (run_call b).answer.refusal ≡ 0 → Demand3 a b p q (run_call a) (run_call b)
demand3 a b p q e f =
    let x = kept a p e in
    let y = kept b q f in
    let u = run-reported a.text a.input p.table (input_for a p) a.session.fuel p.reads x.feeds in
    let v = run-reported b.text b.input q.table (input_for b q) b.session.fuel q.reads y.feeds in
    record {
      reports = (
        λ z. reports_same 32 (omega arith) (ending a p) (ending b q) u v (sym x.ends_in.report ∙ z ∙ y.ends_in.report),
        λ z. x.ends_in.report ∙ same_reports 32 (omega arith) (ending a p) (ending b q) u v z ∙ sym y.ends_in.report,
      );
      first = x;
      second = y;
    }

-- one tree, however the second text cuts it
pub recuts : (a b : Call) → Recuts a b → (run_call a).answer.refusal ≡ 0 → (run_call b).answer.refusal ≡ 0 → Recut (run_call a) (run_call b)
recuts a b h e f =
    let x = accepted_call a e in
    let y = accepted_call b f in
    let t = h.table in
    let ga = subst (λ (k : Table). Feeds k a.input x.input) (one_table a.text x.table t x.reads h.reads) x.feeds in
    let gb = subst (λ (k : Table). Feeds k b.input y.input) (one_table b.text y.table t y.reads (ap read_text (sym h.text) ∙ h.reads)) y.feeds in
    let i : x.input ≡ y.input = recut_feeds t (read_formed a.text t h.reads) a.input b.input h.parts h.others x.input y.input h.lists h.lists_too h.same ga gb in
    let k : x.table ≡ y.table = one_table a.text x.table y.table x.reads (ap read_text h.text ∙ y.reads) in
    let o : run x.table x.input a.session.fuel ≡ run y.table y.input b.session.fuel = λ j. run (k j) (i j) (h.session j).fuel in
    let p = ends_in_lem (run x.table x.input a.session.fuel) a (run_call a) x.ends in
    let q = ends_in_lem (run y.table y.input b.session.fuel) b (run_call b) y.ends in
    record {
      length = ap (λ (r : Ran). r.answer.length) x.ends ∙ ap (λ (z : Outcome Graph). length (report_of z)) o ∙ sym (ap (λ (r : Ran). r.answer.length) y.ends);
      report = p.report ∙ ap report_of o ∙ sym q.report;
      session = p.session ∙ (λ j. with_fuel (h.session j) (fuel_of (o j))) ∙ sym q.session;
    }

-- ---- values and reports
-- X = u where u is a mark
close_mark : (x k : ℕ) (b : Bool) → eqb k x ≡ b → close x (mark_of k) ≡ cond b undetermined (mark_of k)
unfolding close
close_mark x k b e = ap (λ (y : Bool). graph (elim y as (λ _. Ref) [ true ↦ leaf undet | false ↦ leaf (mark k) ]) []) e ∙ go b
  where
    go : (y : Bool) → graph (elim y as (λ _. Ref) [ true ↦ leaf undet | false ↦ leaf (mark k) ]) [] ≡ cond y undetermined (mark_of k)
    go true = refl
    go false = refl

close-undetermined : (x : ℕ) → close x undetermined ≡ undetermined
unfolding close
close-undetermined x = refl

close_number : (x n : ℕ) → close x (number_of n) ≡ number_of n
unfolding close
close_number x n = refl

pub canonical : Canonical
canonical =
    record {
      same = canon_same;
      unique = λ g h wg wh. (same_canon g h wg wh, canon_tree g h wg wh);
      values = λ l s t i n r g. good_run l t i n (read_formed s t r) g;
      new_object = make_top;
      new_field = make_field;
      selects = select_tree;
      closes = close_tree;
      closes_itself = λ x. close_mark x x true (eq-eqb x x refl);
      closes_other = λ x k h. close_mark x k false (ne_eqb k x h);
      closes_nothing = close-undetermined;
      closes_number = close_number;
      met_again = open_some;
      met_first = open_none;
    }

-- for every limit whose numbers stay below FE
pub reports : (objects : ℕ) → objects ≤ part_count → Reports objects
reports objects small =
    record {
      exact = λ s v. (report_back objects s v, λ h. subst (λ (x : List ℕ). reported objects x ≡ some v) h.1 (report_round objects small v h.0));
      injective = report_injective objects small;
      values = λ l s t i n e r g. subst (λ (k : ℕ). Out (Reportable k) (run_within l t i n)) e
          (run_reportable l t i n (read_formed s t r) (subst (λ (k : ℕ). IfAny (Good t k 0) i) (sym e) g));
    }
