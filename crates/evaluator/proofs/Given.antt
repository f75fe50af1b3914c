-- What an evaluation that gave a value, or stopped, says of the language's.
-- Not here: the laws of expressions, lists and calls that use it (EvalLaws, ListLaws, CallLaws, BodyLaws).
use Rattle.std.proofs.Common.{ℕ, ◌+◌, ◌≡◌, sym, ap, ◌∙◌, subst, List, length}
use Rattle.cofj.specs.Syntax.{Expr, Exprs, count, Table}
use Rattle.cofj.specs.Writing.{code_of, codes_of}
use Rattle.cofj.specs.Running.{Outcome, value, stopped, ◌then◌}
use Rattle.values.specs.declared.ValueRef.{ValueRef}
use Rattle.values.specs.Layout.{value_of}
use Rattle.maker.specs.Laying.{values_from}
use Rattle.evaluator.specs.declared.Stop.{Stop}
use Rattle.evaluator.specs.declared.frame.Frame.{Frame}
use Rattle.evaluator.specs.declared.trace.Trace.{Trace}
use Rattle.evaluator.specs.State.{Older, PartsOlder, frame_in, trace_in}
use Rattle.evaluator.specs.Answers.{Out, Value, Halt, Listed, Values, Stops, stop_of, out_in, slots_of, list_in, OutOlder, ListOlder, NextIs, ListNext}
use Rattle.evaluator.specs.Evaluation.{Reads, ReadsAll, eval_in, evals_in, Evaluates, Lists}

-- an outcome gone on with
pub going_on : {A B : Type 0} (x y : Outcome A) (go : A → ℕ → Outcome B) → x ≡ y → (x then go) ≡ (y then go)
going_on x y go e = ap (λ z. z then go) e

module _ (T W : List ℕ) (f : Frame) (tr : Trace) (top at left objects d sp fuel : ℕ) (W1 : List ℕ) (o : Out) (ev : Evaluates T W f tr top at left objects d sp fuel W1 o) where
  pub halted : (s : Stop) (fuel1 : ℕ) → o ≡ Halt s fuel1 → (t : Table) (e : Expr) → Reads T left at t e
      → stopped (stop_of s) fuel1 ≡ eval_in objects d t (frame_in W f) (trace_in W tr top) e fuel
  halted s fuel1 eo t e r = ap (out_in W1) (sym eo) ∙ (ev.is t e r).is

  module _ (v : ValueRef) (at1 fuel1 : ℕ) (eo : o ≡ Value v at1 fuel1) where
    pub given : (t : Table) (e : Expr) → Reads T left at t e → value (value_of W1 v) fuel1 ≡ eval_in objects d t (frame_in W f) (trace_in W tr top) e fuel
    given t e r = ap (out_in W1) (sym eo) ∙ (ev.is t e r).is

    pub given_next : (t : Table) (e : Expr) → Reads T left at t e → at1 ≡ at + length (code_of e)
    given_next t e r = subst (λ (x : Out). NextIs x (at + length (code_of e))) eo (ev.is t e r).next

    pub given_older : Older W1 (sp + 1) v
    given_older = subst (OutOlder W1 (sp + 1)) eo ev.older

module _ (T W : List ℕ) (f : Frame) (tr : Trace) (top at left objects d sp fuel n : ℕ) (W1 : List ℕ) (l : Listed) (li : Lists T W f tr top at left objects d sp fuel n W1 l) where
  pub all_halted : (s : Stop) (fuel1 : ℕ) → l ≡ Stops s fuel1 → (t : Table) (es : Exprs) → ReadsAll T left at t es → count es ≡ n
      → stopped (stop_of s) fuel1 ≡ evals_in objects d t (frame_in W f) (trace_in W tr top) es fuel
  all_halted s fuel1 el t es r c = ap (list_in W1 n) (sym el) ∙ (li.is t es r c).is

  module _ (a b c e : ValueRef) (at1 fuel1 : ℕ) (el : l ≡ Values a b c e at1 fuel1) where
    pub all_given : (t : Table) (es : Exprs) → ReadsAll T left at t es → count es ≡ n
        → value (values_from W1 (slots_of a b c e) 0 n) fuel1 ≡ evals_in objects d t (frame_in W f) (trace_in W tr top) es fuel
    all_given t es r k = ap (list_in W1 n) (sym el) ∙ (li.is t es r k).is

    pub all_next : (t : Table) (es : Exprs) → ReadsAll T left at t es → count es ≡ n → at1 ≡ at + length (codes_of es)
    all_next t es r k = subst (λ (x : Listed). ListNext x (at + length (codes_of es))) el (li.is t es r k).next

    pub all_older : PartsOlder W1 (sp + n) (slots_of a b c e) n
    all_older = subst (ListOlder W1 (sp + n) n) el li.older
