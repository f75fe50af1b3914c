-- Whether an object refers to another: one law for each return of `refers` and `unreferred`.
use Rattle.std.proofs.Common.{ℕ, zero, suc, ◌+◌, ◌*◌, ◌<◌, ◌≤◌, arith, ◌≡◌, refl, sym, ap, ◌∙◌, Bool, true, false, not, List, eqb, get_or, eq-eqb, ne_eqb, eqb-true}
use borrow.Author.Tests.{eqb-false}
use Rattle.canon.specs.Figures.{object_size, head_size, code_count, block_size}
use Rattle.values.specs.Tests.{any}
use Rattle.values.specs.Binding.{refers_to, none_refer}
use Rattle.values.proofs.Tests.{not_true, any_there, any_not, any_more, any_none}

-- ---- whether an object refers to another
module _ (W : List ℕ) (p i : ℕ) where
  abbrev is : ℕ → Bool
  is f = eqb (get_or W (p + 2 + f) 0) i

  refer_at : (f a : ℕ) → f < code_count → p + 2 + f ≡ a → get_or W a 0 ≡ i → true ≡ refers_to W p i
  unfolding refers_to
  refer_at f a h z e = sym (any_there is 4 f h (eq-eqb _ _ (ap (λ (k : ℕ). get_or W k 0) z ∙ e)))

  pub refer_first : get_or W (p + 2) 0 ≡ i → true ≡ refers_to W p i
  refer_first = refer_at 0 (p + 2) (omega arith) (omega arith)

  pub refer_second : get_or W (p + 3) 0 ≡ i → true ≡ refers_to W p i
  refer_second = refer_at 1 (p + 3) (omega arith) (omega arith)

  pub refer_third : get_or W (p + 4) 0 ≡ i → true ≡ refers_to W p i
  refer_third = refer_at 2 (p + 4) (omega arith) (omega arith)

  pub refer_last : ((get_or W (p + 2) 0 ≡ i) → ⊥) → ((get_or W (p + 3) 0 ≡ i) → ⊥) → ((get_or W (p + 4) 0 ≡ i) → ⊥) → eqb (get_or W (p + 5) 0) i ≡ refers_to W p i
  unfolding refers_to
  refer_last h2 h3 h4 = go (eqb (get_or W (p + 5) 0) i) refl
    where
      at : (f a : ℕ) → p + 2 + f ≡ a → ((get_or W a 0 ≡ i) → ⊥) → is f ≡ false
      at f a e h = ne_eqb _ _ (λ q. h (ap (λ (k : ℕ). get_or W k 0) (sym e) ∙ q))

      codes : eqb (get_or W (p + 5) 0) i ≡ false → (f : ℕ) → f < code_count → is f ≡ false
      codes z zero h = at 0 (p + 2) (omega arith) h2
      codes z (suc zero) h = at 1 (p + 3) (omega arith) h3
      codes z (suc (suc zero)) h = at 2 (p + 4) (omega arith) h4
      codes z (suc (suc (suc zero))) h = at 3 (p + 5) (omega arith) (eqb-false _ _ z)
      codes z (suc (suc (suc (suc f)))) h = absurd (omega arith)

      go : (r : Bool) → eqb (get_or W (p + 5) 0) i ≡ r → r ≡ refers_to W p i
      go true z = refer_at 3 (p + 5) (omega arith) (omega arith) (eqb-true _ _ z)
      go false z = sym (any_none is 4 (codes z))

  refer_not : refers_to W p i ≡ false → (f : ℕ) → f < code_count → get_or W (p + 2 + f) 0 ≡ i → ⊥
  unfolding refers_to
  refer_not z f h = eqb-false _ _ (any_not is 4 f z h)

module _ (W : List ℕ) (b i : ℕ) where
  abbrev refers : ℕ → Bool
  refers k = refers_to W (block_size * b + object_size * k) i

  pub free_none : none_refer W b 0 i ≡ true
  unfolding none_refer any
  free_none = refl

  module _ (k : ℕ) (r : Bool) (er : r ≡ refers_to W (block_size * b + object_size * k) i) where
    pub free_more : none_refer W b k i ≡ true → r ≡ false → none_refer W b (k + 1) i ≡ true
    unfolding none_refer
    free_more u e = ap not (any_more refers k (not_true _ u) (sym er ∙ e))

    pub free_not : (n : ℕ) → k < n → r ≡ true → false ≡ none_refer W b n i
    unfolding none_refer
    free_not n h e = sym (ap not (any_there refers n k h (sym er ∙ e)))

  pub free_all : (k n : ℕ) → none_refer W b k i ≡ true → k ≤ n → n ≤ k → true ≡ none_refer W b n i
  free_all k n u h l = let e : k ≡ n = omega arith in sym (rw e at u)

  pub free_code : (n : ℕ) → none_refer W b n i ≡ true → (j : ℕ) → j < n → (f : ℕ) → f < code_count → get_or W (block_size * b + object_size * j + head_size + f) 0 ≡ i → ⊥
  unfolding none_refer
  free_code n u j h = refer_not W (block_size * b + object_size * j) i (any_not refers n j (not_true _ u) h)
