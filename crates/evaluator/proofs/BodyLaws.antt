-- The two sides of a method, as the language has them: one law for each return of the code; the open calls with one more.
-- Not here: what the functions ask of one another (CallSteps).
use Rattle.std.proofs.Common.{ℕ, zero, suc, ◌+◌, ◌≤◌, ◌<◌, arith, add-one, ◌≡◌, refl, sym, ap, ap₂, ◌∙◌, subst, List, ◌∷◌, length}
use native.Mathlib.Decide.{dec_lt}
use Rattle.std.proofs.Math.Option.{none, some}
use Rattle.std.proofs.Math.ListN.{get_elem?}
use Rattle.cofj.specs.Limits.{method_count, nesting_limit}
use Rattle.cofj.specs.Syntax.{Expr, Method, Table}
use Rattle.cofj.specs.Writing.{code_of}
use Rattle.cofj.specs.Values.{Graph, mark_of, close}
use Rattle.cofj.specs.Running as language
use Rattle.cofj.specs.Running.{value, stopped, eval_to, frame_of, opened}
use Rattle.cofj.specs.WellFormed.{MethodFormed}
use Rattle.classes.specs.Machine.{left_of, right_of}
use Rattle.classes.specs.Layout.{layout, Stands, Tabled}
use Rattle.classes.proofs.Zones.{left_stands, right_stands}
use Rattle.classes.proofs.Lists.{index_below, method_at}
use Rattle.values.specs.declared.ValueRef.{ValueRef}
use Rattle.values.specs.declared.ValueRef.TheVariants.{Mark}
use Rattle.values.specs.Layout.{value_of}
use Rattle.values.specs.Operations.{Gives}
use Rattle.maker.specs.Laying.{values_from}
use Rattle.evaluator.specs.declared.Stop.{Stop}
use Rattle.std.specs.declared.option.Option.TheVariants.{Some, None}
use Rattle.evaluator.specs.declared.trace.Trace.{Trace}
use Rattle.evaluator.specs.declared.trace.OpenCall.{OpenCall}
use Rattle.evaluator.specs.State.{side_call, Kept, Older, PartsOlder, call_at, CallPut, CallOlder, TraceHolds, call_in, frame_in, trace_in}
use Rattle.evaluator.specs.Frames.{body_frame}
use Rattle.evaluator.specs.Answers.{Out, Value, Halt, stop_of}
use Rattle.evaluator.specs.Evaluation.{Reads, eval_in, deeper, Evaluates}
use Rattle.evaluator.specs.Calling.{RunsRight, RunsLeft}
use Rattle.evaluator.specs.Steps.{Traced}
use Rattle.evaluator.proofs.TraceLaws.{trace_below}
use Rattle.evaluator.proofs.Keeping.{kept_then, kept_down, kept_outside}
use Rattle.evaluator.proofs.Given.{going_on, halted, given}

-- evaluation with room for d more calls is the language's
pub eval_to_is : (objects d : ℕ) (t : Table) (p : language.Frame) (os : List language.OpenCall) (e : Expr) (n : ℕ) → eval_in objects d t p os e n ≡ eval_to objects d t p os e n
unfolding eval_to deeper
eval_to_is objects zero t p os e n = refl
eval_to_is objects (suc d) t p os e n = refl

-- ---- the trace with one call more
trace_length : (W : List ℕ) (tr : Trace) (n : ℕ) → length (trace_in W tr n) ≡ n
unfolding trace_in
trace_length W tr zero = refl
trace_length W tr (suc n) = ap suc (trace_length W tr n)

module _ (S : Trace) (k : ℕ) (c : OpenCall) (S1 : Trace) (put : CallPut S k c S1) where
  put_older : (i : ℕ) → i < k → call_at S1 i ≡ call_at S i
  put_older i l = put.others i (λ e. omega arith)

  pub put_traced : Traced k S S1
  put_traced = let e = put.fuel in record { calls = put_older; spent = omega arith }

module _ (S : Trace) (k : ℕ) (v : ValueRef) (m : ℕ) (ps : List ValueRef) (n : ℕ) (S1 : Trace) (put : CallPut S k (side_call v m ps n k) S1) where
  pub put_in : (W : List ℕ) → trace_in W S1 (k + 1) ≡ opened (trace_in W S k) (value_of W v) m (values_from W ps 0 n)
  unfolding trace_in
  put_in W =
      ap (trace_in W S1) (add-one k)
      ∙ ap₂ {A = language.OpenCall} {B = List language.OpenCall} {C = List language.OpenCall} ◌∷◌
      (ap (call_in W k) put.call
      ∙ ap {B = language.OpenCall} (λ (x : ℕ). record { receiver = value_of W v; name = m; args = values_from W ps 0 n; label = x }) (sym (trace_length W S k)))
      (trace_below W S S1 k (put_older S k (side_call v m ps n k) S1 put))

  pub put_holds : (W : List ℕ) (sp : ℕ) → TraceHolds W sp S k → Older W sp v → PartsOlder W sp ps n → n ≤ 4 → TraceHolds W sp S1 (k + 1)
  put_holds W sp h older args few = record { call = λ i l. at_call i l (dec_lt i k); mark = λ i l. at_mark i l (dec_lt i k) }
    where
      at_call : (i : ℕ) → i < k + 1 → Dec (i < k) → CallOlder W sp (call_at S1 i)
      at_call i l (yes q) = subst (CallOlder W sp) (sym (put_older S k (side_call v m ps n k) S1 put i q)) (h.call i q)
      at_call i l (no q) =
          let e : k ≡ i = omega (arith, q) in
          subst (λ (j : ℕ). CallOlder W sp (call_at S1 j)) e (subst (CallOlder W sp) (sym put.call) (record { receiver = older; args = args; few = few }))

      at_mark : (i : ℕ) → i < k + 1 → Dec (i < k) → (call_at S1 i).gives ≡ Mark i
      at_mark i l (yes q) = ap (λ (c : OpenCall). c.gives) (put_older S k (side_call v m ps n k) S1 put i q) ∙ h.mark i q
      at_mark i l (no q) =
          let e : k ≡ i = omega (arith, q) in
          subst (λ (j : ℕ). (call_at S1 j).gives ≡ Mark j) e (ap (λ (c : OpenCall). c.gives) put.call)

-- ---- where the sides stand
module _ (T : List ℕ) (t : Table) (tb : Tabled T t) (i : ℕ) (k : Method) (ek : get_elem? t.methods i ≡ some k) where
  formed : MethodFormed t k
  formed = method_at (MethodFormed t) t.methods i k tb.formed.methods ek

  row : i < method_count
  row = let a = index_below t.methods i k ek in let b = tb.formed.count in omega arith

  right_reads : (at : ℕ) → at ≡ right_of T i → Reads T nesting_limit at t k.right
  right_reads at e = record {
    table = tb;
    nested = formed.right_nested;
    known = formed.right_known;
    stands = subst (λ (p : ℕ). Stands (layout t) p (code_of k.right)) (sym (e ∙ ap (λ (B : List ℕ). right_of B i) tb.bytes)) (right_stands t i k row ek formed.short);
  }

  left_reads : (at : ℕ) → at ≡ left_of T i → Reads T nesting_limit at t k.left
  left_reads at e = record {
    table = tb;
    nested = formed.left_nested;
    known = formed.left_known;
    stands = subst (λ (p : ℕ). Stands (layout t) p (code_of k.left)) (sym (e ∙ ap (λ (B : List ℕ). left_of B i) tb.bytes)) (left_stands t i k row ek formed.short);
  }

-- ---- the sides
module _ (T W : List ℕ) (tr : Trace) (top : ℕ) (v : ValueRef) (A : List ValueRef) (n owner i next objects d sp fuel x at : ℕ) (ea : at ≡ right_of T i) (W1 : List ℕ) (o : Out)
    (ev : Evaluates T W (body_frame v (Some (Mark x)) A n owner) tr top at nesting_limit objects d (sp + 4) fuel W1 o) where
  kept_right : Kept sp W W1
  kept_right = kept_down sp (sp + 4) W W1 (omega arith) ev.kept

  right_runs : (t : Table) (e : Expr) → eval_in objects d t (frame_in W (body_frame v (Some (Mark x)) A n owner)) (trace_in W tr top) e fuel ≡ eval_to objects d t (frame_of (value_of W v) (some (mark_of x)) (values_from W A 0 n)) (trace_in W tr top) e fuel
  unfolding frame_in
  right_runs t e = eval_to_is objects d t (frame_in W (body_frame v (Some (Mark x)) A n owner)) (trace_in W tr top) e fuel

  pub right_halt : (s : Stop) (fuel1 : ℕ) → o ≡ Halt s fuel1 → RunsRight T W tr top v A n i next objects d sp fuel x W1 o
  right_halt s fuel1 eo = subst (RunsRight T W tr top v A n i next objects d sp fuel x W1) (sym eo) (record {
    kept = kept_right;
    older = tt;
    is = λ t k tb ek. record {
      is = halted T W (body_frame v (Some (Mark x)) A n owner) tr top at nesting_limit objects d (sp + 4) fuel W1 o ev s fuel1 eo t k.right (right_reads T t tb i k ek at ea) ∙ right_runs t k.right;
      next = tt;
    };
  })

  pub right_value : (u : ValueRef) (at1 fuel1 : ℕ) (W2 : List ℕ) (r : ValueRef) → o ≡ Value u at1 fuel1 → Gives W1 sp W2 r (value_of W1 u)
      → RunsRight T W tr top v A n i next objects d sp fuel x W2 (Value r next fuel1)
  right_value u at1 fuel1 W2 r eo b = record {
    kept = kept_then sp sp W W1 W2 (omega arith) kept_right (kept_outside sp W1 W2 b.outside);
    older = record { held = b.held; low = b.place };
    is = λ t k tb ek. record {
      is = ap (λ (g : Graph). value g fuel1) b.is
          ∙ given T W (body_frame v (Some (Mark x)) A n owner) tr top at nesting_limit objects d (sp + 4) fuel W1 o ev u at1 fuel1 eo t k.right (right_reads T t tb i k ek at ea) ∙ right_runs t k.right;
      next = refl;
    };
  }

module _ (T W : List ℕ) (tr : Trace) (top : ℕ) (v : ValueRef) (A : List ValueRef) (n owner i next objects d sp fuel m : ℕ) (tr1 : Trace)
    (pu : CallPut tr top (side_call v m A n top) tr1) (at : ℕ) (ea : at ≡ left_of T i) (W1 : List ℕ) (o : Out)
    (ev : Evaluates T W (body_frame v None A n owner) tr1 (top + 1) at nesting_limit objects d (sp + 4) fuel W1 o) where
  kept_left : Kept sp W W1
  kept_left = kept_down sp (sp + 4) W W1 (omega arith) ev.kept

  trace_is : trace_in W tr1 (top + 1) ≡ opened (trace_in W tr top) (value_of W v) m (values_from W A 0 n)
  trace_is = put_in tr top v m A n tr1 pu W

  left_runs : (t : Table) (e : Expr) → eval_in objects d t (frame_in W (body_frame v None A n owner)) (trace_in W tr1 (top + 1)) e fuel
      ≡ eval_to objects d t (frame_of (value_of W v) none (values_from W A 0 n)) (opened (trace_in W tr top) (value_of W v) m (values_from W A 0 n)) e fuel
  unfolding frame_in
  left_runs t e =
      ap (λ (os : List language.OpenCall). eval_in objects d t (frame_in W (body_frame v None A n owner)) os e fuel) trace_is
      ∙ eval_to_is objects d t (frame_in W (body_frame v None A n owner)) (opened (trace_in W tr top) (value_of W v) m (values_from W A 0 n)) e fuel

  pub left_halt : (s : Stop) (fuel1 : ℕ) → o ≡ Halt s fuel1 → RunsLeft T W tr top v A n i next objects d sp fuel m W1 o
  left_halt s fuel1 eo = subst (RunsLeft T W tr top v A n i next objects d sp fuel m W1) (sym eo) (record {
    kept = kept_left;
    older = tt;
    is = λ t k tb ek. record {
      is = going_on (stopped (stop_of s) fuel1) (eval_to objects d t (frame_of (value_of W v) none (values_from W A 0 n)) (opened (trace_in W tr top) (value_of W v) m (values_from W A 0 n)) k.left fuel)
          (λ u n'. value (close (length (trace_in W tr top)) u) n')
          (halted T W (body_frame v None A n owner) tr1 (top + 1) at nesting_limit objects d (sp + 4) fuel W1 o ev s fuel1 eo t k.left (left_reads T t tb i k ek at ea) ∙ left_runs t k.left);
      next = tt;
    };
  })

  pub left_value : (u : ValueRef) (at1 fuel1 : ℕ) (W2 : List ℕ) (r : ValueRef) → o ≡ Value u at1 fuel1 → Gives W1 sp W2 r (close top (value_of W1 u))
      → RunsLeft T W tr top v A n i next objects d sp fuel m W2 (Value r next fuel1)
  left_value u at1 fuel1 W2 r eo g = record {
    kept = kept_then sp sp W W1 W2 (omega arith) kept_left (kept_outside sp W1 W2 g.outside);
    older = record { held = g.held; low = g.place };
    is = λ t k tb ek. record {
      is = ap (λ (w : Graph). value w fuel1) (g.is ∙ ap (λ (x : ℕ). close x (value_of W1 u)) (sym (trace_length W tr top)))
          ∙ going_on (value (value_of W1 u) fuel1) (eval_to objects d t (frame_of (value_of W v) none (values_from W A 0 n)) (opened (trace_in W tr top) (value_of W v) m (values_from W A 0 n)) k.left fuel)
          (λ w n'. value (close (length (trace_in W tr top)) w) n')
          (given T W (body_frame v None A n owner) tr1 (top + 1) at nesting_limit objects d (sp + 4) fuel W1 o ev u at1 fuel1 eo t k.left (left_reads T t tb i k ek at ea) ∙ left_runs t k.left);
      next = refl;
    };
  }
