-- The interpreter computes the big-step rules (specs/RunningRules). What follows by the rules is the interpreter's outcome (-complete). Since every
-- expression has an outcome by the rules (RunTotal), its outcome follows by them (-sound), and there is no other (-unique). Last, the same of runs. Nothing is asked of the table. Not here: what the side conditions say (SideConditions).
use Prim.Native.Nat.{ℕ, zero, suc, ◌+◌, ◌≤◌, ◌<◌}
use native.Mathlib.Omega.{arith}
use mathlib.Core.Path.{◌≡◌, refl, sym, ap, ◌∙◌, subst}
use mathlib.Core.Bool.{Bool, true, false}
use mathlib.Core.List.{List, []}
use mathlib.Core.Option.{Option, none, some}
use lib.Dec.{eqb, ltb}
use lib.ListN.{length}
use borrow.Author.Tests.{eq-eqb, ne_eqb, lt-ltb, le-ltb}
use Rattle.cofj.specs.Limits.{Limits, number_count}
use Rattle.cofj.specs.Syntax.{sum, Expr, new, Exprs, count, Method, Table}
use Rattle.cofj.specs.Classes.{fields_of}
use Rattle.cofj.specs.Values.{Graph, make, close, mark_of, number_of}
use Rattle.cofj.specs.Running.{too_deep, too_large, overflow, Outcome, value, stopped, ◌then◌, Frame, OpenCall, open_mark, Deeper, frame_of, opened, invoke, sized, reckon, eval, evals, eval_to, main_frame, run_within}
use Rattle.cofj.specs.RunningRules.{Evaluates, VAR-this, VAR-res, VAR-param, FIELD, INVK, COREC, NEW, W-FIELD-object, W-FIELD-lacks, W-INVK-object, W-INVK-lacks, W-INVK-count, W-INVK2, W-NEW, PROP-field, PROP-receiver, PROP-arguments, PROP-new, W-VAR-this, W-VAR-res, W-VAR-param, OUT-OF-FUEL, TOO-DEEP, TOO-LARGE, NUMBER, SUM, DIFFERENCE, OVERFLOW, W-COMBINE-first, W-COMBINE-second, CHOOSE-first, CHOOSE-second, W-CHOOSE, PROP-first, PROP-second, PROP-choose, EvaluateAll, NONE, EACH, PROP-head, PROP-tail, RunsTo, PROG}
use Rattle.cofj.proofs.SideConditions.{target_object, target_lacks, target-count, select_none}
use Rattle.cofj.proofs.SoundCalls.{target_is}
use Rattle.cofj.proofs.RunTotal.{eval_total, evals_total}

if_true : (b : Bool) (x y : Outcome Graph) → b ≡ true → (elim b as (λ _. Outcome Graph) [ true ↦ x | false ↦ y ]) ≡ x
if_true b x y e = rw e

if_false : (b : Bool) (x y : Outcome Graph) → b ≡ false → (elim b as (λ _. Outcome Graph) [ true ↦ x | false ↦ y ]) ≡ y
if_false b x y e = rw e

module _ (objects : ℕ) (t : Table) where
  -- ---- what follows by the rules is the interpreter's outcome
  -- the evaluation of bodies, where k more calls may be opened
  abbrev pub bodies : ℕ → Option Deeper
  bodies zero = none
  bodies (suc k) = some (λ fr os e n. eval_to objects k t fr os e n)

  to_eval : (k : ℕ) (fr : Frame) (os : List OpenCall) (e : Expr) (n : ℕ) → eval_to objects k t fr os e n ≡ eval objects t (bodies k) fr os e n
  unfolding eval_to
  to_eval zero fr os e n = refl
  to_eval (suc k) fr os e n = refl

  module _ (os : List OpenCall) (v : Graph) (m : ℕ) (vs : List Graph) (d : Method) (n : ℕ) where
    left_runs : (k : ℕ) (o : Outcome Graph) → open_mark os v m vs ≡ none → eval objects t (bodies k) (frame_of v none vs) (opened os v m vs) d.left n ≡ o
        → invoke (bodies (suc k)) os v m vs d (suc n) ≡ (o then λ u n'. value (close (length os) u) n')
    unfolding invoke
    left_runs k o z j = rw (z, invoke, to_eval k (frame_of v none vs) (opened os v m vs) d.left n, j)

    right_runs : (k x : ℕ) (o : Outcome Graph) → open_mark os v m vs ≡ some x → eval objects t (bodies k) (frame_of v (some (mark_of x)) vs) os d.right n ≡ o
        → invoke (bodies (suc k)) os v m vs d (suc n) ≡ o
    unfolding invoke
    right_runs k x o z j = rw (z, invoke, to_eval k (frame_of v (some (mark_of x)) vs) os d.right n) j

    too_deep_lem : invoke (bodies zero) os v m vs d (suc n) ≡ stopped too_deep n
    unfolding invoke
    too_deep_lem = refl

  new_runs : (k : ℕ) (fr : Frame) (os : List OpenCall) (c : ℕ) (es : Exprs) (n : ℕ) (o : Outcome (List Graph)) → length (fields_of t.classes c) ≡ count es
      → evals objects t (bodies k) fr os es n ≡ o → eval objects t (bodies k) fr os (new c es) n ≡ (o then λ vs n'. sized objects (make c vs) n')
  unfolding eval
  new_runs k fr os c es n o q j =
      if_true (eqb (length (fields_of t.classes c)) (count es)) _ _ (eq-eqb (length (fields_of t.classes c)) (count es) q)
      ∙ ap (λ (x : Outcome (List Graph)). x then λ vs n'. sized objects (make c vs) n') j

  small : (g : Graph) (n : ℕ) → length g.nodes ≤ objects → sized objects g n ≡ value g n
  unfolding sized
  small g n l = if_false (ltb objects (length g.nodes)) _ _ (le-ltb objects (length g.nodes) l)

  large : (g : Graph) (n : ℕ) → objects < length g.nodes → sized objects g n ≡ stopped too_large n
  unfolding sized
  large g n l = if_true (ltb objects (length g.nodes)) _ _ (lt-ltb objects (length g.nodes) l)

  fits_sum : (x y n : ℕ) → x + y < number_count → reckon sum x y n ≡ value (number_of (x + y)) n
  unfolding reckon
  fits_sum x y n l = if_true (ltb (x + y) number_count) _ _ (lt-ltb (x + y) number_count l)

  overflows : (x y n : ℕ) → number_count ≤ x + y → reckon sum x y n ≡ stopped overflow n
  unfolding reckon
  overflows x y n l = if_false (ltb (x + y) number_count) _ _ (le-ltb (x + y) number_count l)

  eval_outcome : {k : ℕ} {fr : Frame} {os : List OpenCall} {e : Expr} {n : ℕ} {o : Outcome Graph} → Evaluates objects t k fr os e n o → eval objects t (bodies k) fr os e n ≡ o
  unfolding eval invoke reckon
  eval_outcome p = elim p as (λ k fr os e n o _. eval objects t (bodies k) fr os e n ≡ o) (λ k fr os es n o _. evals objects t (bodies k) fr os es n ≡ o) [
    | VAR-this q ↦ rw q
    | VAR-res q ↦ rw q
    | VAR-param q ↦ rw q
    | FIELD (p → i) q ↦ rw (i, q)
    | INVK {k = k} {n₂ = n₂} {m = m} {σ = os} {es = es} {v = v} {vs = vs} {d = d} (p → i) q r s (ps → is) z (b → j) ↦
        rw (i, target_is t v m (count es) _ _ q r s, is) (left_runs os v m vs d n₂ k _ z j)
    | COREC {k = k} {n₂ = n₂} {m = m} {x = x} {σ = os} {es = es} {v = v} {vs = vs} {d = d} {o = o} (p → i) q r s (ps → is) z (b → j) ↦
        rw (i, target_is t v m (count es) _ _ q r s, is) (right_runs os v m vs d n₂ k x o z j)
    | NEW {k = k} {n = n} {n₁ = n₁} {c = c} {π = fr} {σ = os} {es = es} {vs = vs} q (ps → is) l ↦ new_runs k fr os c es n _ q is ∙ small (make c vs) n₁ l
    | W-FIELD-object {f = f} {v = v} (p → i) q ↦ rw (i, select_none f v q)
    | W-FIELD-lacks (p → i) q r ↦ rw (i, r)
    | W-INVK-object {m = m} {es = es} {v = v} (p → i) q ↦ rw (i, target_object t v m (count es) q)
    | W-INVK-lacks {m = m} {es = es} {v = v} (p → i) q r ↦ rw (i, target_lacks t v m (count es) _ q r)
    | W-INVK-count {m = m} {es = es} {v = v} (p → i) q r s ↦ rw (i, target-count t v m (count es) _ _ q r s)
    | W-INVK2 {k = k} {n₂ = n₂} {m = m} {σ = os} {es = es} {v = v} {vs = vs} {d = d} (p → i) q r s (ps → is) z (b → j) ↦
        rw (i, target_is t v m (count es) _ _ q r s, is) (left_runs os v m vs d n₂ k _ z j)
    | W-NEW {c = c} {es = es} q ↦ if_false (eqb (length (fields_of t.classes c)) (count es)) _ _ (ne_eqb (length (fields_of t.classes c)) (count es) q)
    | PROP-field (p → i) ↦ rw i
    | PROP-receiver (p → i) ↦ rw i
    | PROP-arguments {m = m} {es = es} {v = v} {d = d} (p → i) q r s (ps → is) ↦ rw (i, target_is t v m (count es) _ _ q r s, is)
    | PROP-new {k = k} {n = n} {c = c} {π = fr} {σ = os} {es = es} q (ps → is) ↦ new_runs k fr os c es n _ q is
    | W-VAR-this q ↦ rw q
    | W-VAR-res q ↦ rw q
    | W-VAR-param q ↦ rw q
    | OUT-OF-FUEL {m = m} {es = es} {v = v} (p → i) q r s (ps → is) ↦ rw (i, target_is t v m (count es) _ _ q r s, is)
    | TOO-DEEP {n₂ = n₂} {m = m} {σ = os} {es = es} {v = v} {vs = vs} {d = d} (p → i) q r s (ps → is) ↦
        rw (i, target_is t v m (count es) _ _ q r s, is) (too_deep_lem os v m vs d n₂)
    | TOO-LARGE {k = k} {n = n} {n₁ = n₁} {c = c} {π = fr} {σ = os} {es = es} {vs = vs} q (ps → is) l ↦ new_runs k fr os c es n _ q is ∙ large (make c vs) n₁ l
    | NUMBER ↦ refl
    | SUM {n₂ = n₂} {x = x} {y = y} (p → i) q (ps → j) r l ↦ rw (i, q, j, r) (fits_sum x y n₂ l)
    | DIFFERENCE (p → i) q (ps → j) r ↦ rw (i, q, j, r)
    | OVERFLOW {n₂ = n₂} {x = x} {y = y} (p → i) q (ps → j) r l ↦ rw (i, q, j, r) (overflows x y n₂ l)
    | W-COMBINE-first (p → i) q ↦ rw (i, q)
    | W-COMBINE-second (p → i) q (ps → j) r ↦ rw (i, q, j, r)
    | CHOOSE-first {x = x} (p → i) q (b → j) ↦ rw (i, q) (if_false (eqb (suc x) 0) _ _ (ne_eqb (suc x) 0 (λ z. omega arith)) ∙ j)
    | CHOOSE-second (p → i) q (b → j) ↦ rw (i, q) j
    | W-CHOOSE (p → i) q ↦ rw (i, q)
    | PROP-first (p → i) ↦ rw i
    | PROP-second (p → i) q (ps → j) ↦ rw (i, q, j)
    | PROP-choose (p → i) ↦ rw i
    | NONE ↦ refl
    | EACH (p → i) (ps → is) ↦ rw (i, is)
    | PROP-head (p → i) ↦ rw i
    | PROP-tail (p → i) (ps → is) ↦ rw (i, is)
  ]

  pub eval_complete : {k : ℕ} {fr : Frame} {os : List OpenCall} {e : Expr} {n : ℕ} {o : Outcome Graph} → Evaluates objects t k fr os e n o → eval_to objects k t fr os e n ≡ o
  eval_complete {k} {fr} {os} {e} {n} p = to_eval k fr os e n ∙ eval_outcome p

  pub evals_complete : {k : ℕ} {fr : Frame} {os : List OpenCall} {es : Exprs} {n : ℕ} {o : Outcome (List Graph)} → EvaluateAll objects t k fr os es n o
      → evals objects t (bodies k) fr os es n ≡ o
  unfolding eval
  evals_complete NONE = refl
  evals_complete (EACH p ps) = rw (eval_outcome p, evals_complete ps)
  evals_complete (PROP-head p) = rw (eval_outcome p)
  evals_complete (PROP-tail p ps) = rw (eval_outcome p, evals_complete ps)

  -- ---- the interpreter's outcome follows by the rules
  pub eval_sound : (k : ℕ) (fr : Frame) (os : List OpenCall) (e : Expr) (n : ℕ) → Evaluates objects t k fr os e n (eval_to objects k t fr os e n)
  eval_sound k fr os e n = let r = eval_total objects t k fr os e n in subst (Evaluates objects t k fr os e n) (sym (eval_complete r.1)) r.1

  pub evals_sound : (k : ℕ) (fr : Frame) (os : List OpenCall) (es : Exprs) (n : ℕ) → EvaluateAll objects t k fr os es n (evals objects t (bodies k) fr os es n)
  evals_sound k fr os es n = let r = evals_total objects t k fr os es n in subst (EvaluateAll objects t k fr os es n) (sym (evals_complete r.1)) r.1

  -- an expression has one outcome
  pub eval_unique : {k : ℕ} {fr : Frame} {os : List OpenCall} {e : Expr} {n : ℕ} {o o' : Outcome Graph} → Evaluates objects t k fr os e n o → Evaluates objects t k fr os e n o' → o ≡ o'
  eval_unique p q = sym (eval_complete p) ∙ eval_complete q

-- ---- runs
module _ (l : Limits) (t : Table) (i : Option Graph) (n : ℕ) where
  pub run_sound : RunsTo l t i n (run_within l t i n)
  unfolding run_within
  run_sound = PROG (eval_sound l.objects t l.depth (main_frame i) [] t.main n)

  pub run_complete : {o : Outcome Graph} → RunsTo l t i n o → run_within l t i n ≡ o
  unfolding run_within
  run_complete (PROG p) = eval_complete l.objects t p

  pub run_unique : {o o' : Outcome Graph} → RunsTo l t i n o → RunsTo l t i n o' → o ≡ o'
  run_unique p q = sym (run_complete p) ∙ run_complete q

  -- every run ends
  pub run_total : (o : Outcome Graph) × RunsTo l t i n o
  run_total = (run_within l t i n, run_sound)
