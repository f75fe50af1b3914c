-- specs/Program at each return of the code.
use Rattle.std.proofs.Common.{◌≡◌, refl, sym, ap, ◌∙◌, Bool, true, false, not, List, ℕ, zero, suc, ◌+◌, ◌-◌, ◌<◌, ◌≤◌, arith, get_or}
use borrow.Author.Tests.{not-true, not-false}
use Rattle.classes.specs.Machine.{pick}
use Rattle.checker.specs.Program.{method_in, methods_from, methods_in}

-- ---- the loop: of n methods, those from i on decide
pub record Rest (B : List ℕ) (n i : ℕ) : Type 0 where
  pub low : i ≤ n
  pub same : methods_from B (n - i) i ≡ methods_in B

pub rest_start : (B : List ℕ) (n : ℕ) → n ≡ get_or B 12 0 → Rest B n 0
rest_start B n e = record { low = omega arith; same = ap (λ (k : ℕ). methods_from B k 0) (let q : n - 0 ≡ get_or B 12 0 = omega arith in q) }

turn : (B : List ℕ) (n i : ℕ) (r : Bool) → (n ≡ 0 → ⊥) → r ≡ method_in B i → methods_from B n i ≡ pick r (methods_from B (n - 1) (i + 1)) false
unfolding methods_from
turn B zero i r nz e = absurd (nz refl)
turn B (suc n) i r nz e =
    let a : suc n - 1 ≡ n = omega arith in
    let b : i + 1 ≡ suc i = omega arith in
    rw (a, b, ← e)

module _ (B : List ℕ) (n i : ℕ) (inv : Rest B n i) where
  pub rest_end : n ≤ i → true ≡ methods_in B
  unfolding methods_from
  rest_end h =
      let e : n - i ≡ 0 = omega arith in
      ap (λ (k : ℕ). methods_from B k i) (sym e) ∙ inv.same

  module _ (lt : i < n) (r : Bool) (er : r ≡ method_in B i) where
    here : methods_in B ≡ pick r (methods_from B (n - i - 1) (i + 1)) false
    here = sym inv.same ∙ turn B (n - i) i r (λ z. omega arith) er

    pub rest_stop : not r ≡ true → false ≡ methods_in B
    rest_stop q = rw (here, not-true r q)

    pub rest_next : not r ≡ false → Rest B n (i + 1)
    rest_next q = record {
      low = omega arith;
      same = ap (λ (k : ℕ). methods_from B k (i + 1)) (let a : n - (i + 1) ≡ n - i - 1 = omega arith in a) ∙ rw (here, not-false r q);
    }
