-- Fields of fields: how many there are. Not here: whether one is selected at a place (classes, ShapeLaws), what a field means (ListLaws).
use Rattle.std.proofs.Common.{ℕ, ◌+◌, ◌*◌, ◌≤◌, ◌<◌, arith, ◌≡◌, sym, ◌∙◌, subst, Bool, true, false, not, List}
use native.Mathlib.Decide.{ℕ_discrete}
use borrow.Author.Tests.{not-false}
use Rattle.classes.specs.Shapes.{is_field}
use Rattle.evaluator.specs.Chains.{Chain}

module _ (T : List ℕ) (at left : ℕ) where
  pub chain_none : Chain T at left 0
  chain_none = record { few = omega arith; each = λ i l. absurd (omega arith) }

  pub chain_end : (d : ℕ) → Chain T at left d → left ≤ d → Chain T at left left
  chain_end d c l = record { few = omega arith; each = λ i k. c.each i (omega arith) }

  pub chain_more : (d : ℕ) → Chain T at left d → d < left → (b : Bool) → b ≡ is_field T (at + 2 * d) → not b ≡ false → Chain T at left (d + 1)
  chain_more d c l b eb nb = record { few = omega arith; each = λ i k. go i k (ℕ_discrete i d) }
    where
      e : is_field T (at + 2 * d) ≡ true
      e = sym eb ∙ not-false b nb

      go : (i : ℕ) → i < d + 1 → Dec (i ≡ d) → is_field T (at + 2 * i) ≡ true
      go i k (yes q) = subst (λ (x : ℕ). is_field T (at + 2 * x) ≡ true) (sym q) e
      go i k (no q) = c.each i (omega (arith, q))
