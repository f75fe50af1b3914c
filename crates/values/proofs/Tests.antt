-- Laws of tests: answers, and a test of the numbers below another.
use Rattle.std.proofs.Common.{ℕ, zero, suc, ◌+◌, ◌<◌, arith, ◌≡◌, refl, sym, ap, ◌∙◌, Bool, true, false, not, cond, true≢false}
use Rattle.std.proofs.Math.Bool.{false≢true}
use Rattle.values.specs.Tests.{any}

-- ---- answers
pub not_true : (r : Bool) → not r ≡ true → r ≡ false
not_true true e = absurd (false≢true e)
not_true false e = refl

pub not_false : (r : Bool) → not r ≡ false → r ≡ true
not_false true e = refl
not_false false e = absurd (true≢false e)

-- what a call has answered
pub told : (r a b : Bool) → r ≡ a → r ≡ b → a ≡ b
told r a b e q = sym e ∙ q

-- ---- the numbers below another
module _ (t : ℕ → Bool) where
  pub any_there : (n i : ℕ) → i < n → t i ≡ true → any t n ≡ true
  unfolding any
  any_there zero i h e = absurd (omega arith)
  any_there (suc n) i h e = go (t n) refl (λ l. any_there n i l e)
    where
      go : (b : Bool) → t n ≡ b → (i < n → any t n ≡ true) → cond b true (any t n) ≡ true
      go true z ih = refl
      go false z ih =
          let d : (i ≡ n) → ⊥ = λ q. false≢true (sym z ∙ ap t (sym q) ∙ e) in
          ih (omega (arith, d))

  pub any_not : (n i : ℕ) → any t n ≡ false → i < n → t i ≡ false
  any_not n i a h = go (t i) refl
    where
      go : (b : Bool) → t i ≡ b → b ≡ false
      go true z = absurd (false≢true (sym a ∙ any_there n i h z))
      go false z = refl

  pub any_more : (n : ℕ) → any t n ≡ false → t n ≡ false → any t (n + 1) ≡ false
  unfolding any
  any_more n a e = let z : n + 1 ≡ suc n = omega arith in rw (z, e) a

  pub any_none : (n : ℕ) → ((i : ℕ) → i < n → t i ≡ false) → any t n ≡ false
  unfolding any
  any_none zero h = refl
  any_none (suc n) h = rw (h n (omega arith)) (any_none n (λ i l. h i (omega arith)))
