-- Laws of comparing and copying runs of bytes, and of filling tables.
use Rattle.std.proofs.Common.{ℕ, ◌+◌, ◌<◌, ◌≤◌, arith, ◌≡◌, refl, sym, ◌∙◌, Bool, true, false, ◌&&◌, List, [], ◌∷◌, eqb, length, get_or, set, length-set, get_or-set_same, get_or-set_other, eq-eqb}
use native.Mathlib.Decide.{ℕ_discrete}
use lib.Pointwise.{pointwise}
use Rattle.cofj.specs.Values.{eq_nats}
use Rattle.cofj.proofs.Basics.{true_both}
use Rattle.canon.specs.Tables.{Filled, Carried}

pub eq_nats_refl : (l : List ℕ) → eq_nats l l ≡ true
unfolding eq_nats
eq_nats_refl [] = refl
eq_nats_refl (x ∷ xs) = true_both (eqb x x) (eq_nats xs xs) (eq-eqb x x refl) (eq_nats_refl xs)

pub eq_nats_same : (l m : List ℕ) → l ≡ m → eq_nats l m ≡ true
eq_nats_same l m e = rw (← e) (eq_nats_refl l)

-- two tests that follow from one another
pub tests_same : (a b : Bool) → (a ≡ true → b ≡ true) → (b ≡ true → a ≡ true) → a ≡ b
tests_same true b f g = sym (f refl)
tests_same false true f g = g refl
tests_same false false f g = refl

both_same : (b r s : Bool) → r ≡ s → (b && r) ≡ elim b [ true ↦ s | false ↦ false ]
both_same true r s e = e
both_same false r s e = refl

-- slices compared, and the lists of numbers that the definitions compare
pub pointwise_same : (l m : List ℕ) → pointwise eqb l m ≡ eq_nats l m
unfolding eq_nats
pointwise_same [] [] = refl
pointwise_same [] (y ∷ ys) = refl
pointwise_same (x ∷ xs) [] = refl
pointwise_same (x ∷ xs) (y ∷ ys) = both_same (eqb x y) _ _ (pointwise_same xs ys)

-- ---- runs of bytes copied: the maker writes objects byte by byte
pub carry_none : (S : List ℕ) (i : ℕ) (D : List ℕ) (j : ℕ) → Carried S i D j 0 D
carry_none S i D j = record { same = refl; here = λ k h. absurd (omega arith); below = λ p h. refl; above = λ p h. refl }

pub carry_more : (S : List ℕ) (i : ℕ) (D₀ : List ℕ) (j k : ℕ) (D : List ℕ) (n : ℕ) → Carried S i D₀ j k D → k < n → j + n ≤ length D₀
    → Carried S i D₀ j (k + 1) (set D (j + k) (get_or S (i + k) 0))
carry_more S i D₀ j k D n c h room = record {
  same = length-set D (j + k) _ ∙ c.same;
  here = λ y l. go y l (ℕ_discrete y k);
  below = λ p l. get_or-set_other D (j + k) p _ 0 (λ z. omega arith) ∙ c.below p l;
  above = λ p l. get_or-set_other D (j + k) p _ 0 (λ z. omega arith) ∙ c.above p (omega arith);
}
  where
    go : (y : ℕ) → y < k + 1 → Dec (y ≡ k) → get_or (set D (j + k) (get_or S (i + k) 0)) (j + y) 0 ≡ get_or S (i + y) 0
    go y l (yes z) = rw z (get_or-set_same D (j + k) _ 0 (omega (arith, c.same)))
    go y l (no z) = get_or-set_other D (j + k) (j + y) _ 0 (λ q. z (omega arith)) ∙ c.here y (omega (arith, z))

-- ---- tables
pub filled_none : (F : ℕ → ℕ) (A : List ℕ) → Filled F 0 A
filled_none F A = record { at = λ i h. absurd (omega arith) }

pub filled_more : (F : ℕ → ℕ) (A : List ℕ) (p x : ℕ) → Filled F p A → p < length A → x ≡ F p → Filled F (p + 1) (set A p x)
filled_more F A p x f h e = record { at = λ i l. go i l (ℕ_discrete i p) }
  where
    go : (i : ℕ) → i < p + 1 → Dec (i ≡ p) → get_or (set A p x) i 0 ≡ F i
    go i l (yes q) = rw q (get_or-set_same A p x 0 h ∙ e)
    go i l (no q) = get_or-set_other A p i x 0 q ∙ f.at i (omega (arith, q))

pub filled_step : (F : ℕ → ℕ) (A₀ A : List ℕ) (n p x : ℕ) → Filled F p A → p < n → length A ≡ length A₀ → n ≤ length A₀ → x ≡ F p
    → Filled F (p + 1) (set A p x)
filled_step F A₀ A n p x f h l k e = filled_more F A p x f (omega arith) e

pub filled_done : (F : ℕ → ℕ) (A : List ℕ) (p n : ℕ) → Filled F p A → n ≤ p → Filled F n A
filled_done F A p n f h = record { at = λ i l. f.at i (omega arith) }
