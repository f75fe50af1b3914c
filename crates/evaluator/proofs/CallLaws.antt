-- Calls up to their arguments, as the language has them: one law for each return of the code.
-- Not here: the call itself (InvokeLaws), what the functions ask of one another (CallSteps).
use Rattle.classes.specs.Machine.{found_at}
use Rattle.std.specs.declared.option.Option.{Option as RustOption}
use Rattle.std.specs.declared.option.Option.TheVariants.{Some, None}
use Rattle.std.proofs.Common.{ℕ, ◌+◌, ◌<◌, arith, ◌≡◌, refl, sym, ap, ◌∙◌, subst, List, [], length}
use Rattle.std.proofs.Math.Option.{Option, none, some}
use Rattle.std.proofs.Math.ListN.{get_elem?}
use Rattle.cofj.specs.Syntax.{Expr, call, Exprs, count, Method, Table}
use Rattle.cofj.specs.Lookup as lookup
use Rattle.cofj.specs.Lookup.{found_in}
use Rattle.cofj.specs.Writing.{code_of, codes_of}
use Rattle.cofj.specs.Values.{Graph}
use Rattle.cofj.specs.Running as language
use Rattle.cofj.specs.Running.{Outcome, value, stopped, ◌then◌, or_stuck, eval, target, invoke}
use Rattle.classes.specs.declared.methods.Found.{Found}
use Rattle.classes.specs.Layout.{Finds}
use Rattle.values.specs.declared.ValueRef.{ValueRef}
use Rattle.values.specs.Layout.{value_of}
use Rattle.maker.specs.Laying.{values_from}
use Rattle.evaluator.specs.declared.Stop.{Stop}
use Rattle.evaluator.specs.declared.Stop.TheVariants.{Stuck}
use Rattle.evaluator.specs.declared.frame.Frame.{Frame}
use Rattle.evaluator.specs.declared.trace.Trace.{Trace}
use Rattle.evaluator.specs.State.{Kept, frame_in, trace_in}
use Rattle.evaluator.specs.Answers.{Out, Value, Halt, Listed, Values, Stops, stop_of, slots_of, Shows}
use Rattle.evaluator.specs.Evaluation.{Reads, ReadsAll, eval_in, evals_in, deeper, Fits, Evaluates, Lists}
use Rattle.evaluator.specs.Calling.{ArgsFit, FindsTarget, Calls, CallsWith, Invokes}
use Rattle.evaluator.proofs.Keeping.{kept_none, kept_then, kept_down, value_kept, frame_same, trace_same}
use Rattle.evaluator.proofs.Standing.{nested_none}
use Rattle.evaluator.proofs.ListLaws.{list_zero}
use Rattle.evaluator.proofs.Given.{going_on, halted, given, given_next, all_halted, all_given, all_next}

-- ---- what a lookup finds
abbrev present : RustOption Found → ℕ
present (Some f) = 1
present None = 0

abbrev owner_in : RustOption Found → ℕ
owner_in (Some f) = f.owner
owner_in None = 0

abbrev number_in : RustOption Found → ℕ
number_in (Some f) = f.method
number_in None = 0

record MethodFound (ds : List Method) (o i : ℕ) (x : Option lookup.Found) : Type 0 where
  method : Method
  here : get_elem? ds i ≡ some method
  is : x ≡ some (found_in o method)

finds_at : (ds : List Method) (f : RustOption Found) (x : Option lookup.Found) → Finds ds f x → (o i : ℕ) → f ≡ Some (found_at o i) → MethodFound ds o i x
finds_at ds f x (Finds.at {d = d} e) o i q = record {
  method = d;
  here = subst (λ (z : ℕ). get_elem? ds z ≡ some d) (ap number_in q) e;
  is = ap (λ (z : ℕ). some (found_in z d)) (ap owner_in q);
}
finds_at ds f x Finds.nothing o i q = absurd (let z : 0 ≡ 1 = ap present q in omega arith)

finds_none : (ds : List Method) (f : RustOption Found) (x : Option lookup.Found) → Finds ds f x → f ≡ None → x ≡ none
finds_none ds f x (Finds.at e) q = absurd (let z : 1 ≡ 0 = ap present q in omega arith)
finds_none ds f x Finds.nothing q = refl

-- ---- a call, its receiver known
abbrev chosen : ℕ → ℕ → Table → language.Frame → List language.OpenCall → ℕ → Exprs → Graph → Option lookup.Found → ℕ → Outcome Graph
chosen objects d t p os m es v x n = or_stuck x n then λ k n''. (evals_in objects d t p os es n'' then λ vs n'''. invoke (deeper objects d t) os v m vs k.body n''')

call_step : (objects d : ℕ) (t : Table) (p : language.Frame) (os : List language.OpenCall) (m : ℕ) (e : Expr) (es : Exprs) (fuel : ℕ) (y : Outcome Graph) → y ≡ eval_in objects d t p os e fuel
    → (y then λ v n'. chosen objects d t p os m es v (target t v m (count es)) n') ≡ eval_in objects d t p os (call m e es) fuel
unfolding eval
call_step objects d t p os m e es fuel y q = going_on y (eval_in objects d t p os e fuel) (λ v n'. chosen objects d t p os m es v (target t v m (count es)) n') q

module _ (T W : List ℕ) (f : Frame) (tr : Trace) (top at left objects d sp fuel m n : ℕ) where
  pub call_flat : left ≡ 0 → Calls T W f tr top at left objects d sp fuel m n W (Halt Stuck fuel)
  call_flat z = record { kept = kept_none sp W; older = tt; is = λ t e es small r rs c. absurd (nested_none left e z r.nested) }

  module _ (W1 : List ℕ) (o : Out) (ev : Evaluates T W f tr top at left objects d sp fuel W1 o) where
    pub call_halt : (s : Stop) (fuel1 : ℕ) → o ≡ Halt s fuel1 → Calls T W f tr top at left objects d sp fuel m n W1 o
    call_halt s fuel1 eo = subst (Calls T W f tr top at left objects d sp fuel m n W1) (sym eo) (record {
      kept = ev.kept;
      older = tt;
      is = λ t e es small r rs c. record {
        is = call_step objects d t (frame_in W f) (trace_in W tr top) m e es fuel (stopped (stop_of s) fuel1) (halted T W f tr top at left objects d sp fuel W1 o ev s fuel1 eo t e r);
        next = tt;
      };
    })

    module _ (v : ValueRef) (at1 fuel1 : ℕ) (eo : o ≡ Value v at1 fuel1) (w : RustOption Found) (fi : FindsTarget T W1 v m n w) where
      target_is : (t : Table) (e : Expr) (es : Exprs) → Reads T left at t e → count es ≡ n → (x : Option lookup.Found) → target t (value_of W1 v) m n ≡ x
          → chosen objects d t (frame_in W f) (trace_in W tr top) m es (value_of W1 v) x fuel1 ≡ eval_in objects d t (frame_in W f) (trace_in W tr top) (call m e es) fuel
      target_is t e es r c x q =
          ap (λ (y : Option lookup.Found). chosen objects d t (frame_in W f) (trace_in W tr top) m es (value_of W1 v) y fuel1) (sym q ∙ ap (target t (value_of W1 v) m) (sym c))
          ∙ call_step objects d t (frame_in W f) (trace_in W tr top) m e es fuel (value (value_of W1 v) fuel1) (given T W f tr top at left objects d sp fuel W1 o ev v at1 fuel1 eo t e r)

      pub call_none : w ≡ None → Calls T W f tr top at left objects d sp fuel m n W1 (Halt Stuck fuel1)
      call_none ew = record {
        kept = ev.kept;
        older = tt;
        is = λ t e es small r rs c. record {
          is = target_is t e es r c none (finds_none t.methods w (target t (value_of W1 v) m n) (fi.is t r.table small) ew);
          next = tt;
        };
      }

      pub call_is : (own i : ℕ) (W2 : List ℕ) (x : Out) → Fits W f tr top (left + 1) objects d sp → w ≡ Some (found_at own i) → CallsWith T W1 f tr top at1 left objects d sp fuel1 v m n i W2 x
          → Calls T W f tr top at left objects d sp fuel m n W2 x
      call_is own i W2 x fit ew cw = record { kept = kept_then sp sp W W1 W2 (omega arith) ev.kept cw.kept; older = cw.older; is = shows }
        where
          shows : (t : Table) (e : Expr) (es : Exprs) → m < 256 → Reads T left at t e → ReadsAll T left (at + length (code_of e)) t es → count es ≡ n
              → Shows W2 x (at + length (code_of e) + length (codes_of es)) (eval_in objects d t (frame_in W f) (trace_in W tr top) (call m e es) fuel)
          shows t e es small r rs c =
              let a1 = given_next T W f tr top at left objects d sp fuel W1 o ev v at1 fuel1 eo t e r in
              let k = finds_at t.methods w (target t (value_of W1 v) m n) (fi.is t r.table small) own i ew in
              let z = cw.is t es k.method (subst (λ (p : ℕ). ReadsAll T left p t es) (sym a1) rs) c k.here in
              let ef = frame_same W W1 sp ev.kept f fit.frame in
              let et = trace_same W W1 sp ev.kept tr top fit.trace in
              let same : (evals_in objects d t (frame_in W1 f) (trace_in W1 tr top) es fuel1 then λ vs n'. invoke (deeper objects d t) (trace_in W1 tr top) (value_of W1 v) m vs k.method n')
              ≡ (evals_in objects d t (frame_in W f) (trace_in W tr top) es fuel1 then λ vs n'. invoke (deeper objects d t) (trace_in W tr top) (value_of W1 v) m vs k.method n')
              = (λ j. evals_in objects d t (ef j) (et j) es fuel1 then λ vs n'. invoke (deeper objects d t) (et j) (value_of W1 v) m vs k.method n') in
              subst (λ (p : ℕ). Shows W2 x (p + length (codes_of es)) (eval_in objects d t (frame_in W f) (trace_in W tr top) (call m e es) fuel)) a1
              (record { is = z.is ∙ same ∙ target_is t e es r c (some (found_in own k.method)) k.is; next = z.next })

-- ---- the arguments
module _ (T W : List ℕ) (f : Frame) (tr : Trace) (top at left objects d sp fuel : ℕ) (v : ValueRef) (m n i : ℕ) (fit : ArgsFit W f tr top left objects d sp v n) (W1 : List ℕ) (l : Listed)
    (li : Lists T W f tr top at left objects d (sp + 1) fuel n W1 l) where
  kept_args : Kept sp W W1
  kept_args = kept_down sp (sp + 1) W W1 (omega arith) li.kept

  pub args_halt : (s : Stop) (fuel1 : ℕ) (o : Out) → l ≡ Stops s fuel1 → o ≡ Halt s fuel1 → CallsWith T W f tr top at left objects d sp fuel v m n i W1 o
  args_halt s fuel1 o el eo = subst (CallsWith T W f tr top at left objects d sp fuel v m n i W1) (sym eo) (record {
    kept = kept_args;
    older = tt;
    is = λ t es k rs c ek. record {
      is = going_on (stopped (stop_of s) fuel1) (evals_in objects d t (frame_in W f) (trace_in W tr top) es fuel) (λ vs n'. invoke (deeper objects d t) (trace_in W tr top) (value_of W v) m vs k n')
          (all_halted T W f tr top at left objects d (sp + 1) fuel n W1 l li s fuel1 el t es rs c);
      next = tt;
    };
  })

  pub args_is : (a b c e : ValueRef) (at1 fuel1 : ℕ) (ps : List ValueRef) (W2 : List ℕ) (o : Out) → l ≡ Values a b c e at1 fuel1
      → values_from W1 ps 0 n ≡ values_from W1 (slots_of a b c e) 0 n → Invokes T W1 tr top v ps n i at1 objects d sp fuel1 m W2 o → CallsWith T W f tr top at left objects d sp fuel v m n i W2 o
  args_is a b c e at1 fuel1 ps W2 o el ep inv = record { kept = kept_then sp sp W W1 W2 (omega arith) kept_args inv.kept; older = inv.older; is = shows }
    where
      shows : (t : Table) (es : Exprs) (k : Method) → ReadsAll T left at t es → count es ≡ n → get_elem? t.methods i ≡ some k
          → Shows W2 o (at + length (codes_of es)) (evals_in objects d t (frame_in W f) (trace_in W tr top) es fuel then λ vs n'. invoke (deeper objects d t) (trace_in W tr top) (value_of W v) m vs k n')
      shows t es k rs q ek =
          let z = inv.is t k rs.table ek in
          let et = trace_same W W1 sp kept_args tr top fit.fits.trace in
          let eg = value_kept W W1 (sp + 1) li.kept v fit.receiver in
          let same : invoke (deeper objects d t) (trace_in W1 tr top) (value_of W1 v) m (values_from W1 ps 0 n) k fuel1 ≡ invoke (deeper objects d t) (trace_in W tr top) (value_of W v) m (values_from W1 (slots_of a b c e) 0 n) k fuel1
          = (λ j. invoke (deeper objects d t) (et j) (eg j) m (ep j) k fuel1) in
          subst (λ (p : ℕ). Shows W2 o p (evals_in objects d t (frame_in W f) (trace_in W tr top) es fuel then λ vs n'. invoke (deeper objects d t) (trace_in W tr top) (value_of W v) m vs k n'))
          (all_next T W f tr top at left objects d (sp + 1) fuel n W1 l li a b c e at1 fuel1 el t es rs q)
          (record {
            is = z.is ∙ same ∙ going_on (value (values_from W1 (slots_of a b c e) 0 n) fuel1) (evals_in objects d t (frame_in W f) (trace_in W tr top) es fuel) (λ vs n'. invoke (deeper objects d t) (trace_in W tr top) (value_of W v) m vs k n')
                (all_given T W f tr top at left objects d (sp + 1) fuel n W1 l li a b c e at1 fuel1 el t es rs q);
            next = z.next;
          })

-- ---- no arguments
values_none : (W : List ℕ) (ps : List ValueRef) (n : ℕ) → n ≡ 0 → values_from W ps 0 n ≡ []
unfolding values_from
values_none W ps n z = rw z

pub args_none : (T W : List ℕ) (f : Frame) (tr : Trace) (top at left objects d sp fuel : ℕ) (v : ValueRef) (m n i : ℕ) → n ≡ 0 → (ps : List ValueRef) (W2 : List ℕ) (o : Out)
    → Invokes T W tr top v ps n i at objects d sp fuel m W2 o → CallsWith T W f tr top at left objects d sp fuel v m n i W2 o
args_none T W f tr top at left objects d sp fuel v m n i z ps W2 o inv = record { kept = inv.kept; older = inv.older; is = shows }
  where
    shows : (t : Table) (es : Exprs) (k : Method) → ReadsAll T left at t es → count es ≡ n → get_elem? t.methods i ≡ some k
        → Shows W2 o (at + length (codes_of es)) (evals_in objects d t (frame_in W f) (trace_in W tr top) es fuel then λ vs n'. invoke (deeper objects d t) (trace_in W tr top) (value_of W v) m vs k n')
    shows t es k rs q ek =
        let a = inv.is t k rs.table ek in
        let b = (list_zero T W f tr top at left objects d sp fuel n v v v v z).is t es rs q in
        subst (λ (p : ℕ). Shows W2 o p (evals_in objects d t (frame_in W f) (trace_in W tr top) es fuel then λ vs n'. invoke (deeper objects d t) (trace_in W tr top) (value_of W v) m vs k n')) b.next
        (record {
          is = a.is ∙ ap (λ (vs : List Graph). invoke (deeper objects d t) (trace_in W tr top) (value_of W v) m vs k fuel) (values_none W ps n z ∙ sym (values_none W (slots_of v v v v) n z))
              ∙ going_on (value (values_from W (slots_of v v v v) 0 n) fuel) (evals_in objects d t (frame_in W f) (trace_in W tr top) es fuel) (λ vs n'. invoke (deeper objects d t) (trace_in W tr top) (value_of W v) m vs k n') b.is;
          next = a.next;
        })
