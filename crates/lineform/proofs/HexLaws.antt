-- Laws of the digits, in the form in which the goals of `hex` and the laws of decoding cite them.
use Rattle.std.proofs.Common.{ℕ, zero, suc, ◌+◌, ◌*◌, ◌-◌, ◌<◌, ◌≤◌, arith, ◌≡◌, refl, ap, ◌∙◌, Bool, true, false, ◌&&◌, List, [], ◌∷◌, eqb, length, get_or, Fits, w16, le-leb, eqb-true}
use Rattle.std.proofs.Math.Option.{Option, none, some}
use borrow.Author.Tests.{lt-leb}
use Rattle.cofj.specs.Partial.{◌>>=◌}
use Rattle.cofj.specs.Text.{within, digit}
use Rattle.cofj.proofs.TextRound.{within_true}
use Rattle.lineform.specs.Answers.{Values, value_of, pair_value}

pub below : (a b n : ℕ) → n < a → within a b n ≡ false
below a b n h = rw (lt-leb a n h)

pub above : (a b n : ℕ) → a ≤ n → b < n → within a b n ≡ false
above a b n l h = rw (le-leb a n l, lt-leb n b h)

pub inside : (a b n : ℕ) → a ≤ n → n ≤ b → within a b n ≡ true
inside a b n l h = rw (le-leb a n l, le-leb n b h)

-- ---- the table of values: a test of all its entries, the first being that of the character k
abbrev pub all_right : ℕ → List ℕ → Bool
all_right k [] = true
all_right k (x ∷ xs) = eqb x (value_of (digit k)) && all_right (suc k) xs

both : (a b : Bool) → a && b ≡ true → (a ≡ true) × (b ≡ true)
both true b e = (refl, e)
both false b e = let z : ◌≡◌ {A = ℕ} 0 1 = cc in absurd (omega arith)

from : (xs : List ℕ) (i k : ℕ) → all_right i xs ≡ true → k < length xs → get_or xs k 0 ≡ value_of (digit (i + k))
from [] i k e h = absurd (omega arith)
from (x ∷ xs) i zero e h =
    let b = both (eqb x (value_of (digit i))) (all_right (suc i) xs) e in
    let n : i ≡ i + 0 = omega arith in
    rw (← n) (eqb-true x (value_of (digit i)) b.0)
from (x ∷ xs) i (suc k) e h =
    let b = both (eqb x (value_of (digit i))) (all_right (suc i) xs) e in
    let n : suc i + k ≡ i + suc k = omega arith in
    rw (← n) (from xs (suc i) k b.1 (omega arith))

value_at : (xs : List ℕ) (c : ℕ) → all_right 0 xs ≡ true → c < length xs → get_or xs c 0 ≡ value_of (digit c)
value_at xs c e h = from xs 0 c e h ∙ ap (λ (k : ℕ). value_of (digit k)) (let n : 0 + c ≡ c = omega arith in n)

pub all_values : (xs : List ℕ) → all_right 0 xs ≡ true → length xs ≡ 256 → Values xs
all_values xs e l = record { at = λ c h. value_at xs c e (omega arith) }

pub value_is : (t : List ℕ) (c : ℕ) → Values t → c < 256 → get_or t c 0 ≡ value_of (digit c)
value_is t c v h = v.at c h

-- ---- two digits
pub small : (c d : ℕ) → digit c ≡ some d → d ≤ 15
small c d e = go (within 48 57 c) refl (within 65 70 c) refl e
  where
    go : (x : Bool) → within 48 57 c ≡ x → (y : Bool) → within 65 70 c ≡ y
        → ◌≡◌ {A = Option ℕ} (elim x [ true ↦ some (c - 48) | false ↦ elim y [ true ↦ some (c - 55) | false ↦ none ] ]) (some d) → d ≤ 15
    go true p y q z =
        let w : c - 48 ≡ d = cc in
        let r = within_true 48 57 c p in
        omega arith
    go false p true q z =
        let w : c - 55 ≡ d = cc in
        let r = within_true 65 70 c q in
        omega arith
    go false p false q z = let k : ◌≡◌ {A = ℕ} 0 1 = cc in absurd (omega arith)

value_most : (c : ℕ) → value_of (digit c) ≤ 768
value_most c = go (digit c) (small c)
  where
    go : (p : Option ℕ) → ((d : ℕ) → p ≡ some d → d ≤ 15) → value_of p ≤ 768
    go none s = omega arith
    go (some d) s = let k = s d refl in omega arith

pub first_fits : (c v : ℕ) → v ≡ value_of (digit c) → Fits w16 (16 * v)
first_fits c v e = let s = value_most c in omega arith

pub both_fit : (a b v w : ℕ) → v ≡ value_of (digit a) → w ≡ value_of (digit b) → Fits w16 (16 * v + w)
both_fit a b v w ev ew =
    let s = value_most a in
    let t = value_most b in
    omega arith

-- the byte of the first two characters
abbrev pub pair_of : List ℕ → Option ℕ
pair_of [] = none
pair_of (a ∷ []) = none
pair_of (a ∷ (b ∷ r)) = digit a >>= λ h. digit b >>= λ d. some (16 * h + d)

pub pair_is : (a b : ℕ) (r : List ℕ) → pair_value a b < 256 → pair_of (a ∷ b ∷ r) ≡ some (pair_value a b)
pair_is a b r = go (digit a) (digit b)
  where
    go : (p q : Option ℕ) → 16 * value_of p + value_of q < 256 → p >>= (λ h. q >>= λ d. some (16 * h + d)) ≡ some (16 * value_of p + value_of q)
    go none q l = absurd (omega arith)
    go (some h) none l = absurd (omega arith)
    go (some h) (some d) l = refl

pub pair_none : (a b : ℕ) (r : List ℕ) → 256 ≤ pair_value a b → pair_of (a ∷ b ∷ r) ≡ none
pair_none a b r = go (digit a) (digit b) (small a) (small b)
  where
    go : (p q : Option ℕ) → ((d : ℕ) → p ≡ some d → d ≤ 15) → ((d : ℕ) → q ≡ some d → d ≤ 15)
        → 256 ≤ 16 * value_of p + value_of q → p >>= (λ h. q >>= λ d. some (16 * h + d)) ≡ none
    go none q s t l = refl
    go (some h) none s t l = refl
    go (some h) (some d) s t l =
        let m = s h refl in
        let n = t d refl in
        absurd (omega arith)

-- a number below 768 is a byte
pub pair_small : (a b : ℕ) → pair_value a b < 768 → pair_value a b < 256
pair_small a b = go (digit a) (digit b) (small a) (small b)
  where
    go : (p q : Option ℕ) → ((d : ℕ) → p ≡ some d → d ≤ 15) → ((d : ℕ) → q ≡ some d → d ≤ 15)
        → 16 * value_of p + value_of q < 768 → 16 * value_of p + value_of q < 256
    go none q s t l = absurd (omega arith)
    go (some h) none s t l = absurd (omega arith)
    go (some h) (some d) s t l =
        let m = s h refl in
        let n = t d refl in
        omega arith

-- three numbers of pairs: their sum fits, and below 768 all are bytes
module _ (a b c d x y : ℕ) (ex : x ≡ pair_value a b) (ey : y ≡ pair_value c d) where
  pub two_fit : Fits w16 (x + y)
  two_fit =
      let s = value_most a in
      let t = value_most b in
      let u = value_most c in
      let v = value_most d in
      omega arith

  module _ (e f z : ℕ) (ez : z ≡ pair_value e f) where
    pub three_fit : Fits w16 (x + y + z)
    three_fit =
        let s = value_most a in
        let t = value_most b in
        let u = value_most c in
        let v = value_most d in
        let m = value_most e in
        let n = value_most f in
        omega arith

    module _ (h : x + y + z < 768) where
      pub first_byte : x < 256
      first_byte = rw ex (pair_small a b (rw ex at (let l : x < 768 = omega arith in l)))

      pub second_byte : y < 256
      second_byte = rw ey (pair_small c d (rw ey at (let l : y < 768 = omega arith in l)))

      pub third_byte : z < 256
      third_byte = rw ez (pair_small e f (rw ez at (let l : z < 768 = omega arith in l)))

-- a first digit is no line end
pub pair_goes_on : (a b : ℕ) → pair_value a b < 256 → a ≡ 10 → ⊥
pair_goes_on a b l e =
    let p : pair_value a b ≡ 16 * 768 + value_of (digit b) = ap (λ (x : ℕ). pair_value x b) e in
    omega arith
