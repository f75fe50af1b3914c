-- Laws of a row written, in a table of rows of any type: what a field that G reads is after it. Asked for wherever a row of parting's tables is written.
use Rattle.std.proofs.Common.{ℕ, ◌<◌, arith, ◌≡◌, ap, ◌∙◌, List, length, get_or, set, get_or-set_same, get_or-set_other}
use native.Mathlib.Decide.{dec_lt, ℕ_discrete}
use Rattle.std.proofs.Math.Seq.{set_out}

module _ {R : Type 0} (G : R → ℕ) (T : List R) (p : ℕ) (r d : R) where
  -- the field written
  pub field_here : p < length T → G (get_or (set T p r) p d) ≡ G r
  field_here h = ap G (get_or-set_same T p r d h)

  -- any field of another row
  pub field_other : (y : ℕ) → ((y ≡ p) → ⊥) → G (get_or (set T p r) y d) ≡ G (get_or T y d)
  field_other y q = ap G (get_or-set_other T p y r d q)

  -- another field of any row
  pub field_kept : G r ≡ G (get_or T p d) → (y : ℕ) → G (get_or (set T p r) y d) ≡ G (get_or T y d)
  field_kept e y = go (ℕ_discrete y p) (dec_lt p (length T))
    where
      go : Dec (y ≡ p) → Dec (p < length T) → G (get_or (set T p r) y d) ≡ G (get_or T y d)
      go (no q) h = field_other y q
      go (yes q) (yes h) = rw q (field_here h ∙ e)
      go (yes q) (no h) = ap (λ (l : List R). G (get_or l y d)) (set_out T p r (omega (arith, h)))
