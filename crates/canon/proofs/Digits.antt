-- Bytes by the numbers that they make: two, four, eight, the bytes of two objects compared.
use Rattle.std.proofs.Common.{ℕ, zero, suc, ◌+◌, ◌-◌, ◌*◌, ◌<◌, ◌≤◌, arith, ◌≡◌, refl, sym, ap, ◌∙◌, Bool, true, false, List, eqb, length, get_or, eq-eqb, eqb-true}
use native.Mathlib.Decide.{dec_lt}
use Rattle.std.proofs.Math.Bool.{false≢true}
use Rattle.cofj.specs.Values.{eq_nats}
use Rattle.cofj.proofs.Basics.{eq_nats_true}
use Rattle.canon.specs.Figures.{object_size, numbers_at, three_bytes, four_bytes}
use Rattle.canon.specs.Layout.{part}
use Rattle.canon.specs.Tables.{Two, Four, Eight, PlainTest}
use Rattle.canon.proofs.Runs.{eq_nats_same, tests_same}
use Rattle.canon.proofs.Nodes.{at_part, parts_same}

four-digits : (a b c d a' b' c' d' : ℕ) → a < 256 → b < 256 → c < 256 → d < 256 → a' < 256 → b' < 256 → c' < 256 → d' < 256
    → a + 256 * b + 65536 * c + three_bytes * d ≡ a' + 256 * b' + 65536 * c' + three_bytes * d' → (a ≡ a') × (b ≡ b') × (c ≡ c') × (d ≡ d')
four-digits a b c d a' b' c' d' la lb lc ld la' lb' lc' ld' e = (omega arith, omega arith, omega arith, omega arith)

-- n bytes from two places on
abbrev Bytes : List ℕ → List ℕ → ℕ → ℕ → ℕ → Type 0
Bytes A B i j n = (p : ℕ) → p < n → get_or A (i + p) 0 ≡ get_or B (j + p) 0

module _ (A B : List ℕ) (i j x y : ℕ) where
  -- the first of them
  add_zero : get_or A i 0 ≡ get_or B j 0 → get_or A (i + 0) 0 ≡ get_or B (j + 0) 0
  add_zero e = let zi : i + 0 ≡ i = omega arith in let zj : j + 0 ≡ j = omega arith in rw (zi, zj) e

  drop_zero : get_or A (i + 0) 0 ≡ get_or B (j + 0) 0 → get_or A i 0 ≡ get_or B j 0
  drop_zero e = let zi : i + 0 ≡ i = omega arith in let zj : j + 0 ≡ j = omega arith in rw (zi, zj) at e

  module _ (fa : Four A i x) (fb : Four B j y) where
    four_number : Bytes A B i j 4 → x ≡ y
    four_number h = omega (arith, fa.is, fb.is, drop_zero (h 0 (omega arith)), h 1 (omega arith), h 2 (omega arith), h 3 (omega arith))

    four_bytes_lem : x ≡ y → Bytes A B i j 4
    four_bytes_lem e = go (four-digits _ _ _ _ _ _ _ _ fa.low0 fa.low1 fa.low2 fa.low3 fb.low0 fb.low1 fb.low2 fb.low3 (sym fa.is ∙ e ∙ fb.is))
      where
        go : (get_or A i 0 ≡ get_or B j 0) × (get_or A (i + 1) 0 ≡ get_or B (j + 1) 0) × (get_or A (i + 2) 0 ≡ get_or B (j + 2) 0) × (get_or A (i + 3) 0 ≡ get_or B (j + 3) 0) → Bytes A B i j 4
        go d zero h = add_zero d.0
        go d (suc zero) h = d.1
        go d (suc (suc zero)) h = d.2
        go d (suc (suc (suc zero))) h = d.3
        go d (suc (suc (suc (suc p)))) h = absurd (omega arith)

  module _ (ta : Two A i x) (tb : Two B j y) where
    two_number : Bytes A B i j 2 → x ≡ y
    two_number h = omega (arith, ta.is, tb.is, drop_zero (h 0 (omega arith)), h 1 (omega arith))

    two_bytes : x ≡ y → Bytes A B i j 2
    two_bytes e zero h = add_zero (omega (arith, ta.is, tb.is, ta.low0, ta.low1, tb.low0, tb.low1))
    two_bytes e (suc zero) h = omega (arith, ta.is, tb.is, ta.low0, ta.low1, tb.low0, tb.low1)
    two_bytes e (suc (suc p)) h = absurd (omega arith)

-- the first m of them, and those after them
bytes_more : (A B : List ℕ) (i j m n : ℕ) → Bytes A B i j m → Bytes A B (i + m) (j + m) n → Bytes A B i j (m + n)
bytes_more A B i j m n f l p h = go (dec_lt p m)
  where
    go : Dec (p < m) → get_or A (i + p) 0 ≡ get_or B (j + p) 0
    go (yes a) = f p a
    go (no a) =
        let zi : i + m + (p - m) ≡ i + p = omega (arith, a) in
        let zj : j + m + (p - m) ≡ j + p = omega (arith, a) in
        rw (zi, zj) at (l (p - m) (omega (arith, a)))

bytes_after : (A B : List ℕ) (i j m n : ℕ) → Bytes A B i j (m + n) → Bytes A B (i + m) (j + m) n
bytes_after A B i j m n f p h =
    let zi : i + m + p ≡ i + (m + p) = omega arith in
    let zj : j + m + p ≡ j + (m + p) = omega arith in
    rw (zi, zj) (f (m + p) (omega arith))

halves : (a b a' b' : ℕ) → a < four_bytes → a' < four_bytes → a + four_bytes * b ≡ a' + four_bytes * b' → (a ≡ a') × (b ≡ b')
halves a b a' b' h h' e = (omega arith, omega arith)

four_low : (S : List ℕ) (p r : ℕ) → Four S p r → r < four_bytes
four_low S p r f = omega (arith, f.is, f.low0, f.low1, f.low2, f.low3)

module _ (A B : List ℕ) (i j x y : ℕ) (ea : Eight A i x) (eb : Eight B j y) where
  eight_number : Bytes A B i j 8 → x ≡ y
  eight_number h =
      omega (
        arith,
        ea.is,
        eb.is,
        four_number A B i j ea.low eb.low ea.first eb.first (λ p l. h p (omega arith)),
        four_number A B (i + 4) (j + 4) ea.high eb.high ea.last eb.last (bytes_after A B i j 4 4 h),
      )

  eight_bytes : x ≡ y → Bytes A B i j 8
  eight_bytes e =
      let d = halves ea.low ea.high eb.low eb.high (four_low A i ea.low ea.first) (four_low B j eb.low eb.first) (sym ea.is ∙ e ∙ eb.is) in
      bytes_more A B i j 4 4 (four_bytes_lem A B i j ea.low eb.low ea.first eb.first d.0) (four_bytes_lem A B (i + 4) (j + 4) ea.high eb.high ea.last eb.last d.1)

-- ---- the bytes of two objects, all of them
module _ (A B : List ℕ) (i j : ℕ) (ha : i + object_size ≤ length A) (hb : j + object_size ≤ length B) (x y : ℕ) (ea : Eight A i x) (eb : Eight B j y) where
  byte_of : eq_nats (part A i object_size) (part B j object_size) ≡ true → Bytes A B i j object_size
  byte_of e p h = sym (at_part A i object_size ha p h) ∙ ap (λ (l : List ℕ). get_or l p 0) (eq_nats_true _ _ e) ∙ at_part B j object_size hb p h

  pub object_not : ((x ≡ y) → ⊥) → false ≡ eq_nats (part A i object_size) (part B j object_size)
  object_not d = go (eq_nats (part A i object_size) (part B j object_size)) refl
    where
      go : (r : Bool) → eq_nats (part A i object_size) (part B j object_size) ≡ r → false ≡ r
      go true e = absurd (d (eight_number A B i j x y ea eb (λ p h. byte_of e p (omega arith))))
      go false e = refl

  pub object_by_last : (u v : ℕ) → x ≡ y → Eight A (i + 8) u → Eight B (j + 8) v → eqb u v ≡ eq_nats (part A i object_size) (part B j object_size)
  object_by_last u v e la lb =
      tests_same (eqb u v) (eq_nats (part A i object_size) (part B j object_size))
      (λ q. eq_nats_same _ _ (parts_same A B i j object_size ha hb (bytes_more A B i j 8 8 (eight_bytes A B i j x y ea eb e) (eight_bytes A B (i + 8) (j + 8) u v la lb (eqb-true u v q)))))
      (λ q. eq-eqb u v (eight_number A B (i + 8) (j + 8) u v la lb (bytes_after A B i j 8 8 (byte_of q))))

-- ---- those that are no codes
module _ (A : List ℕ) (i j x y : ℕ) (ta : Two A i x) (tb : Two A j y) where
  pub plain_head : ((x ≡ y) → ⊥) → PlainTest A i j false
  plain_head d = record { yes = λ z. absurd (false≢true z); not = λ _ p. d (two_number A A i j x y ta tb p.head) }

  module _ (u v : ℕ) (na : Two A (i + numbers_at) u) (nb : Two A (j + numbers_at) v) where
    pub plain_first : ((u ≡ v) → ⊥) → PlainTest A i j false
    plain_first d = record {
      yes = λ z. absurd (false≢true z);
      not = λ _ p. d (two_number A A (i + numbers_at) (j + numbers_at) u v na nb (λ k h.
          let zi : i + numbers_at + k ≡ i + (numbers_at + k) = omega arith in
          let zj : j + numbers_at + k ≡ j + (numbers_at + k) = omega arith in
          rw (zi, zj) (p.rest (numbers_at + k) (omega arith) (omega arith))));
    }

    pub plain_last : (s t : ℕ) → x ≡ y → u ≡ v → Eight A (i + 8) s → Eight A (j + 8) t → PlainTest A i j (eqb s t)
    plain_last s t ex eu sa sb = record {
      yes = λ q. record { head = two_bytes A A i j x y ta tb ex; rest = λ k a h. rest q k a h };
      not = λ q p. let z : eqb s t ≡ true = eq-eqb s t (eight_number A A (i + 8) (j + 8) s t sa sb (λ k h.
          let zi : i + 8 + k ≡ i + (8 + k) = omega arith in
          let zj : j + 8 + k ≡ j + (8 + k) = omega arith in
          rw (zi, zj) (p.rest (8 + k) (omega arith) (omega arith)))) in false≢true (sym q ∙ z);
    }
      where
        rest : eqb s t ≡ true → (k : ℕ) → numbers_at ≤ k → k < object_size → get_or A (i + k) 0 ≡ get_or A (j + k) 0
        rest q k a h =
            let b = bytes_more A A (i + numbers_at) (j + numbers_at) 2 8 (two_bytes A A (i + numbers_at) (j + numbers_at) u v na nb eu)
            (let zi : i + numbers_at + 2 ≡ i + 8 = omega arith in let zj : j + numbers_at + 2 ≡ j + 8 = omega arith in rw (zi, zj) (eight_bytes A A (i + 8) (j + 8) s t sa sb (eqb-true s t q))) in
            let zi : i + numbers_at + (k - numbers_at) ≡ i + k = omega arith in
            let zj : j + numbers_at + (k - numbers_at) ≡ j + k = omega arith in
            rw (zi, zj) at (b (k - numbers_at) (omega arith))
