-- The number that falls at each call in the cycle of evaluation: calls that may be opened first, then the nesting left, then the functions in their order.
-- Not here: the cycle.
use Rattle.evaluator.specs.declared.trace.Trace.{Trace}
use Rattle.evaluator.specs.declared.trace.OpenCall.{OpenCall}
use Rattle.std.proofs.Common.{ℕ, ◌+◌, ◌*◌, ◌≤◌, ◌<◌, arith, ◌≡◌, sym, subst, List}
use Rattle.evaluator.specs.declared.spot.Spot.{Spot}
use Rattle.evaluator.specs.Steps.{BodyRunnable}
use Rattle.evaluator.specs.Spots.{inner_spot, moved_spot, down_spot, body_spot}

-- a body is nested at most 6 deep, and 6 times 600 is below 6000; the order of the functions is below 600
abbrev pub μ : Spot → ℕ → ℕ
μ p rank = p.calls * 6000 + p.nesting * 600 + rank

-- in a call, where its nesting plays no part
abbrev pub μ-call : Spot → ℕ → ℕ
μ-call p rank = p.calls * 6000 + rank

-- ---- one level in: from `eval_number`, which is 0, from `eval`, which is 1, and from `eval_item`, which is 2
module _ (p q : Spot) (next t : ℕ) (eq : q ≡ inner_spot p next) (nz : p.nesting ≡ 0 → ⊥) where
  inner : (r s : ℕ) → r < 600 + s → μ p s ≡ t → μ q r < t
  inner r s l e = subst (λ (x : Spot). μ x r < t) (sym eq) (omega (arith, nz, e))

  pub eval_field_falls : μ p 1 ≡ t → μ q 3 < t
  eval_field_falls e = inner 3 1 (omega arith) e

  pub eval_new_falls : μ p 1 ≡ t → μ q 4 < t
  eval_new_falls e = inner 4 1 (omega arith) e

  pub eval_call_falls : μ p 1 ≡ t → μ q 4 < t
  eval_call_falls e = inner 4 1 (omega arith) e

  pub number_part_falls : μ p 0 ≡ t → μ q 4 < t
  number_part_falls e = inner 4 0 (omega arith) e

  pub item_field_falls : μ p 2 ≡ t → μ q 3 < t
  item_field_falls e = inner 3 2 (omega arith) e

  pub item_new_falls : μ p 2 ≡ t → μ q 4 < t
  item_new_falls e = inner 4 2 (omega arith) e

-- ---- the same level
pub eval_number_falls : (p : Spot) (t : ℕ) → μ p 1 ≡ t → μ p 0 < t
eval_number_falls p t e = omega (arith, e)

pub same_falls : (p : Spot) (t : ℕ) → μ p 2 ≡ t → μ p 1 < t
same_falls p t e = omega (arith, e)

pub new_list_falls : (p : Spot) (t : ℕ) → μ p 4 ≡ t → μ p 3 < t
new_list_falls p t e = omega (arith, e)

pub call_eval_falls : (p : Spot) (t : ℕ) → μ p 4 ≡ t → μ p 1 < t
call_eval_falls p t e = omega (arith, e)

pub list_item_falls : (p q : Spot) (t : ℕ) → μ p 3 ≡ t → q.nesting ≡ p.nesting → q.calls ≡ p.calls → μ q 2 < t
list_item_falls p q t e n c = subst (λ (x : ℕ). q.calls * 6000 + x * 600 + 2 < t) (sym n) (subst (λ (y : ℕ). y * 6000 + p.nesting * 600 + 2 < t) (sym c) (omega (arith, e)))

pub field_eval_falls : (p q : Spot) (d t : ℕ) → q ≡ down_spot p d → d ≤ p.nesting → μ p 3 ≡ t → μ q 1 < t
field_eval_falls p q d t eq l e = subst (λ (x : Spot). μ x 1 < t) (sym eq) (omega (arith, e))

module _ (p q : Spot) (at b t : ℕ) (eq : q ≡ moved_spot p at b) (e : μ p 4 ≡ t) where
  pub number_eval_falls : μ q 1 < t
  number_eval_falls = subst (λ (x : Spot). μ x 1 < t) (sym eq) (omega (arith, e))

  pub call_list_falls : μ q 3 < t
  call_list_falls = subst (λ (x : Spot). μ x 3 < t) (sym eq) (omega (arith, e))

  pub call_invoke_falls : μ-call q 2 < t
  call_invoke_falls = subst (λ (x : Spot). μ-call x 2 < t) (sym eq) (omega (arith, e))

-- ---- calls
pub invoke_side_falls : (p : Spot) (t : ℕ) → μ-call p 2 ≡ t → μ-call p 1 < t
invoke_side_falls p t e = omega (arith, e)

module _ (W : List ℕ) (S : Trace) (c : OpenCall) (p : Spot) (run : BodyRunnable W S c p) (q : Spot) (at k t : ℕ) (eq : q ≡ body_spot p at k) where
  pub side_eval_falls : μ-call p 1 ≡ t → μ q 1 < t
  side_eval_falls e = subst (λ (x : Spot). μ x 1 < t) (sym eq) (omega (arith, run.deep, e))
