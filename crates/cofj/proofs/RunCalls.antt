-- Runs: what a checked run and a trial run answer, number by number, and the lengths of the buffers. Collected in specs/Promises.
-- Not here: what the rules give (Promises).
use Prim.Native.Nat.{ℕ, ◌≤◌, ◌<◌}
use native.Mathlib.Omega.{arith}
use mathlib.Core.Path.{◌≡◌, refl, sym, ap, ◌∙◌, subst}
use mathlib.Core.Bool.{Bool, true, false, not, cond}
use mathlib.Core.List.{List}
use mathlib.Core.Option.{Option, none, some}
use lib.Dec.{ltb}
use lib.ListN.{length, drop, replicate, length-append, length-drop, length-replicate}
use lib.Seq.{take-append_seam}
use borrow.Author.Tests.{ltb-true, ltb-false, lt-ltb, le-ltb}
use Rattle.cofj.specs.Limits.{standard, report_size, work_size}
use Rattle.cofj.specs.Syntax.{Ty, Table}
use Rattle.cofj.specs.Reading.{Answer, refusal, read, read_text}
use Rattle.cofj.specs.Typing.{Checked, refused, accepted, check}
use Rattle.cofj.specs.Values.{Graph}
use Rattle.cofj.specs.Running.{Outcome, run, run_within}
use Rattle.cofj.specs.Report.{report_of}
use Rattle.cofj.specs.Formed.{Good, IfAny, Out}
use Rattle.cofj.specs.ReportForm.{Reportable}
use Rattle.cofj.specs.WellFormed.{WellFormed}
use Rattle.cofj.specs.Calls.{Mode, checked, trial, Admitted, declined, admitted, feed, after_check, admit_table, admit, Call, state_refusal, zeros, over, cleared, Ran, ended, run_admitted, run_unless, run_call}
use Rattle.cofj.specs.Promises.{report_text, Lent, Ready, typed, tried, Feeds, Refusals, Answers, refuses, runs, Lengths, EndsIn}
use Rattle.cofj.proofs.Readable.{read_formed}
use Rattle.cofj.proofs.Reached.{fed_good}
use Rattle.cofj.proofs.Reports.{run_reportable, report_length}
use Rattle.cofj.proofs.Inputs.{feed_some, feed_unlisted, feed_unfitting, empty_unlisted, feeds_feed, Fate, refuses as text-refuses, feeds, fate, feeds_fed}
use Rattle.cofj.proofs.ReadCalls.{read_number, check_number, over-length}

-- ---- refusals
module _ (a : Call) where
  pub by_state : (o : Option ℕ) → state_refusal a ≡ o → run_call a ≡ run_unless o a
  unfolding run_call
  by_state o e = ap (λ (x : Option ℕ). run_unless x a) e

  -- what the state refuses, by its three tests
  abbrev state_by : Bool → Bool → Bool → Option ℕ
  state_by x y z = cond (not x) (some 11) (cond y (some 12) (cond z (some 13) none))

  state_closed : a.session.active ≡ false → state_refusal a ≡ some 11
  unfolding state_refusal
  state_closed e = λ i. state_by (e i) (ltb (length a.report) report_size) (ltb (length a.work) work_size)

  pub state_report : a.session.active ≡ true → length a.report < report_size → state_refusal a ≡ some 12
  unfolding state_refusal
  state_report e l = let p = lt-ltb (length a.report) report_size l in λ i. state_by (e i) (p i) (ltb (length a.work) work_size)

  pub state_work : a.session.active ≡ true → report_size ≤ length a.report → length a.work < work_size → state_refusal a ≡ some 13
  unfolding state_refusal
  state_work e l m = let p = le-ltb (length a.report) report_size l in let q = lt-ltb (length a.work) work_size m in λ i. state_by (e i) (p i) (q i)

  pub state_none : Lent a → state_refusal a ≡ none
  unfolding state_refusal
  state_none l =
      let e = l.active in
      let p = le-ltb (length a.report) report_size l.report in
      let q = le-ltb (length a.work) work_size l.work in
      λ i. state_by (e i) (p i) (q i)

  -- the state refuses nothing: the texts decide
  pub by_text : (x : Admitted) → Lent a → admit a.mode a.text a.input ≡ x → run_call a ≡ run_admitted x a
  by_text x l e = by_state none (state_none l) ∙ ap (λ (y : Admitted). run_admitted y a) e

pub admit_unread : (m : Mode) (s i : List ℕ) (k : ℕ) → read_text s ≡ refusal k → admit m s i ≡ declined k
unfolding admit
admit_unread m s i k e = rw (e, admit)

pub admit_read : (m : Mode) (s i : List ℕ) (t : Table) → read_text s ≡ read t → admit m s i ≡ admit_table m t i
unfolding admit
admit_read m s i t e = rw (e, admit)

admit_accepted : (m : Mode) (t : Table) (i : List ℕ) (u : Ty) → check t ≡ accepted u → admit_table m t i ≡ feed t i
admit_accepted checked t i u e = ap (after_check t i) e
admit_accepted trial t i u e = refl

-- the text is not refused: the second text decides
admit_ready : (a : Call) (t : Table) → Ready a t → admit a.mode a.text a.input ≡ feed t a.input
admit_ready a t (typed u e c) = admit_read a.mode a.text a.input t e ∙ admit_accepted a.mode t a.input u c
admit_ready a t (tried m e) = admit_read a.mode a.text a.input t e ∙ ap (λ (x : Mode). admit_table x t a.input) m

-- such a text is read into a table that is well formed
ready_formed : (a : Call) (t : Table) → Ready a t → WellFormed t
ready_formed a t (typed u e c) = read_formed a.text t e
ready_formed a t (tried m e) = read_formed a.text t e

pub by_input : (a : Call) (t : Table) (x : Admitted) → Lent a → Ready a t → feed t a.input ≡ x → run_call a ≡ run_admitted x a
by_input a t x l r e = by_text a x l (admit_ready a t r ∙ e)

pub refusals : (a : Call) → Refusals a (run_call a)
refusals a =
    record {
      closed = λ e. by_state a (some 11) (state_closed a e);
      short_report = λ e l. by_state a (some 12) (state_report a e l);
      short_work = λ e l m. by_state a (some 13) (state_work a e l m);
      unread = λ k l e. by_text a (declined k) l (admit_unread a.mode a.text a.input k e);
      untyped = λ t k l m e c. by_text a (declined k) l (admit_read a.mode a.text a.input t e ∙ ap (λ (x : Mode). admit_table x t a.input) m ∙ ap (after_check t a.input) c);
      no_input = λ t u l r e q. let wf = ready_formed a t r in by_input a t (declined 14) l r (feed_unlisted t wf a.input u e (empty_unlisted t wf a.input q));
      some_input = λ t l r e q. by_input a t (declined 14) l r (feed_some t (ready_formed a t r) a.input e q);
      unlisted = λ t u l r e h. by_input a t (declined 14) l r (feed_unlisted t (ready_formed a t r) a.input u e h);
      unfitting = λ t u ns l r e q h. by_input a t (declined 15) l r (feed_unfitting t (ready_formed a t r) a.input u ns e q h);
      accepts = λ t u i l e c g. by_input a t (admitted t i) l (typed u e c) (feeds_feed t (read_formed a.text t e) a.input i g);
      tries = λ t i l m e g. by_input a t (admitted t i) l (tried m e) (feeds_feed t (read_formed a.text t e) a.input i g);
    }

pub answers : (a : Call) → Answers a (run_call a)
answers a = by_state a.session.active refl (ltb (length a.report) report_size) refl (ltb (length a.work) work_size) refl
  where
    by_second : (t : Table) → Lent a → (q : read_text a.text ≡ read t) → Ready a t → Fate t (read_formed a.text t q) a.input → Answers a (run_call a)
    by_second t l q r (text-refuses k h m e) = refuses k (omega arith) m (by_input a t (declined k) l r e)
    by_second t l q r (feeds i g) = runs t i l q g (by_input a t (admitted t i) l r (feeds_feed t (read_formed a.text t q) a.input i g))

    by_check : (t : Table) → Lent a → read_text a.text ≡ read t → (m : Mode) → a.mode ≡ m → (c : Checked) → check t ≡ c → Answers a (run_call a)
    by_check t l q checked m (refused k) c =
        let n = check_number a.text t q k c in refuses k (omega (arith, n.0)) (omega (arith, n.1)) ((refusals a).untyped t k l m q c)
    by_check t l q checked m (accepted u) c = by_second t l q (typed u q c) (fate t (read_formed a.text t q) a.input)
    by_check t l q trial m x c = by_second t l q (tried m q) (fate t (read_formed a.text t q) a.input)

    by_read : Lent a → (r : Answer) → read_text a.text ≡ r → Answers a (run_call a)
    by_read l (refusal k) q = let n = read_number a.text k q in refuses k n.0 (omega (arith, n.1)) ((refusals a).unread k l q)
    by_read l (read t) q = by_check t l q a.mode refl (check t) refl

    by_state : (x : Bool) → a.session.active ≡ x → (y : Bool) → ltb (length a.report) report_size ≡ y → (z : Bool) → ltb (length a.work) work_size ≡ z → Answers a (run_call a)
    by_state false p y q z r = refuses 11 (omega arith) (omega arith) ((refusals a).closed p)
    by_state true p true q z r = refuses 12 (omega arith) (omega arith) ((refusals a).short_report p (ltb-true (length a.report) report_size q))
    by_state true p false q true r =
        refuses 13 (omega arith) (omega arith) ((refusals a).short_work p (ltb-false (length a.report) report_size q) (ltb-true (length a.work) work_size r))
    by_state true p false q false r =
        by_read (record { active = p; report = ltb-false (length a.report) report_size q; work = ltb-false (length a.work) work_size r }) (read_text a.text) refl

-- ---- lengths
cleared-length : (work : List ℕ) → work_size ≤ length work → length (cleared work) ≡ length work
unfolding cleared zeros
cleared-length work l =
    length-append (replicate work_size 0) (drop work_size work) ∙ (let d = length-drop work_size work in let z = length-replicate {A = ℕ} work_size 0 in omega arith)

pub run-standard : (t : Table) (i : Option Graph) (n : ℕ) → run_within standard t i n ≡ run t i n
unfolding run
run-standard t i n = refl

-- what a second text gives is a value as runs make them
feeds_good : (s s' : List ℕ) (t : Table) (i : Option Graph) → read_text s ≡ read t → Feeds t s' i → IfAny (Good t standard.objects 0) i
feeds_good s s' t i e g = fed_good standard.objects t i (feeds_fed t (read_formed s t e) s' i g)

-- the values of a run of a program that is read have a report, and it fits
pub run-reported : (s s' : List ℕ) (t : Table) (i : Option Graph) (n : ℕ) → read_text s ≡ read t → Feeds t s' i → Out (Reportable 32) (run t i n)
run-reported s s' t i n e g = subst (Out (Reportable 32)) (run-standard t i n) (run_reportable standard t i n (read_formed s t e) (feeds_good s s' t i e g))

pub run_fits : (s s' : List ℕ) (t : Table) (i : Option Graph) (n : ℕ) → read_text s ≡ read t → Feeds t s' i → length (report_of (run t i n)) ≤ report_size
run_fits s s' t i n e g = report_length 32 (omega arith) (run t i n) (run-reported s s' t i n e g)

pub lengths : (a : Call) → Lengths a (run_call a)
lengths a = go (run_call a) (answers a)
  where
    go : (x : Ran) → Answers a x → Lengths a x
    go x (refuses k h l e) = subst (Lengths a) (sym e) (record { fits = omega arith; report = refl; work = refl })
    go x (runs t i l q g e) =
        let f = run_fits a.text a.input t i a.session.fuel q g in
        subst (Lengths a) (sym e)
        (record {
          fits = f;
          report = over-length (report_of (run t i a.session.fuel)) a.report (let k = l.report in omega arith);
          work = cleared-length a.work l.work;
        })

-- ---- a run that ended is reported
pub ends_in_lem : (o : Outcome Graph) (a : Call) (x : Ran) → x ≡ ended o a → EndsIn o a x
unfolding over
ends_in_lem o a x e =
    record {
      whole = e;
      report = ap report_text e ∙ take-append_seam (report_of o) (drop (length (report_of o)) a.report);
      session = ap (λ (y : Ran). y.answer.session) e;
    }
