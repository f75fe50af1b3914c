-- Laws of digits in blocks, in the form in which the goals of `blocks` cite them.
use Rattle.std.proofs.Common.{ℕ, zero, suc, ◌+◌, ◌-◌, ◌*◌, ◌/◌, ◌%◌, ◌<◌, ◌≤◌, arith, ◌≡◌, refl, sym, ◌∙◌, Bool, true, false, not, ◌&&◌, ◌||◌, List, eqb, ltb, length, get_or, set, length-set, get_or-set_same, get_or-set_other, Fits, w8, eqb-true, ltb-true, ltb-false}
use Rattle.std.proofs.Math.Bool.{false≢true}
use Rattle.std.proofs.Math.Option.{Option, none, some}
use borrow.Author.Tests.{eqb-false, not-false}
use Rattle.cofj.specs.Text.{within, digit}
use Rattle.cofj.proofs.TextRound.{within_true}
use Rattle.lineform.specs.Answers.{value_of, pair_value, put_pairs, Puts, Ahead}
use Rattle.lineform.specs.Blocks.{is_digit, all_digits, Blocks, word_of, words_put, DigitWords, bytes_put}

-- ---- a digit
pub digit_test : (c : ℕ) → within 48 57 c || within 65 70 c ≡ is_digit c
unfolding is_digit
digit_test c = refl

module _ (c : ℕ) (d : is_digit c ≡ true) where
  -- what both kinds of digits have
  both_kinds : (P : Option ℕ → Type 0) → (48 ≤ c → c ≤ 57 → P (some (c - 48))) → (65 ≤ c → c ≤ 70 → P (some (c - 55))) → P (digit c)
  unfolding is_digit
  both_kinds P f g = go (within 48 57 c) refl (within 65 70 c) refl d
    where
      go : (x : Bool) → within 48 57 c ≡ x → (y : Bool) → within 65 70 c ≡ y → x || y ≡ true
          → P (elim x [ true ↦ some (c - 48) | false ↦ elim y [ true ↦ some (c - 55) | false ↦ none ] ])
      go true p y q z = let r = within_true 48 57 c p in f r.0 r.1
      go false p true q z = let r = within_true 65 70 c q in g r.0 r.1
      go false p false q z = absurd (false≢true z)

  pub digit_top : c ≤ 70
  digit_top = both_kinds (λ (o : Option ℕ). c ≤ 70) (λ a b. omega arith) (λ a b. omega arith)

  value_is : c ≡ value_of (digit c) + 48 + 7 * (c / 64)
  value_is =
      both_kinds (λ (o : Option ℕ). c ≡ value_of o + 48 + 7 * (c / 64)) (λ a b. let e : c ≡ c - 48 + 48 + 7 * (c / 64) = omega arith in e)
      (λ a b. let e : c ≡ c - 55 + 48 + 7 * (c / 64) = omega arith in e)

  value_top : value_of (digit c) ≤ 15
  value_top = both_kinds (λ (o : Option ℕ). value_of o ≤ 15) (λ a b. let e : c - 48 ≤ 15 = omega arith in e) (λ a b. let e : c - 55 ≤ 15 = omega arith in e)

module _ (a b : ℕ) (da : is_digit a ≡ true) (db : is_digit b ≡ true) where
  pair_byte : pair_value a b < 256
  pair_byte =
      let s = value_top a da in
      let t = value_top b db in
      omega arith

-- a word's byte, and that no step on the way to it is too large or below zero
module _ (w : ℕ) (da : is_digit (w % 256) ≡ true) (db : is_digit (w / 256) ≡ true) where
  word_is : 16 * (w % 256) + w / 256 ≡ pair_value (w % 256) (w / 256) + 816 + 7 * (16 * (w % 256 / 64) + w / 16384)
  word_is =
      let a = value_is (w % 256) da in
      let b = value_is (w / 256) db in
      omega arith

  pub letters_below : 7 * (16 * (w % 256 / 64) + w / 16384) ≤ 16 * (w % 256) + w / 256 - 816
  letters_below = let e = word_is in omega arith

  pub digits_above : 816 ≤ 16 * (w % 256) + w / 256
  digits_above = let e = word_is in omega arith

  pub word_fits : Fits w8 (16 * (w % 256) + w / 256 - 816 - 7 * (16 * (w % 256 / 64) + w / 16384))
  word_fits =
      let e = word_is in
      let l = pair_byte (w % 256) (w / 256) da db in
      omega arith

  pub word_byte : 16 * (w % 256) + w / 256 - 816 - 7 * (16 * (w % 256 / 64) + w / 16384) ≡ pair_value (w % 256) (w / 256)
  word_byte = let e = word_is in omega arith

-- ---- a block's characters
module _ (text : List ℕ) (at : ℕ) where
  pub all_none : true ≡ all_digits text at 0
  unfolding all_digits
  all_none = refl

  pub all_next : (k : ℕ) (g d : Bool) → g ≡ all_digits text at k → d ≡ is_digit (get_or text (at + k) 0) → g && d ≡ all_digits text at (k + 1)
  unfolding all_digits
  all_next k g d eg ed = let q : k + 1 ≡ suc k = omega arith in rw (q, eg, ed)

  both : (a b : Bool) → a && b ≡ true → (a ≡ true) × (b ≡ true)
  both true b e = (refl, e)
  both false b e = absurd (false≢true e)

  all_each : (n j : ℕ) → all_digits text at n ≡ true → j < n → is_digit (get_or text (at + j) 0) ≡ true
  unfolding all_digits
  all_each zero j e l = absurd (omega arith)
  all_each (suc n) j e l = go (λ h. all_each n j (both (all_digits text at n) (is_digit (get_or text (at + n) 0)) e).0 h) (eqb j n) refl
    where
      go : (j < n → is_digit (get_or text (at + j) 0) ≡ true) → (x : Bool) → eqb j n ≡ x → is_digit (get_or text (at + j) 0) ≡ true
      go f true q = rw (eqb-true j n q) (both (all_digits text at n) (is_digit (get_or text (at + n) 0)) e).1
      go f false q = let k = eqb-false j n q in f (omega arith)

-- ---- blocks one after another
pub blocks_next : (text : List ℕ) (from i k : ℕ) → Blocks text from i → i ≡ from + 32 * k → k < 15 → i + 32 < length text → (b : Bool) → b ≡ all_digits text i 32 → not b ≡ false
    → Blocks text from (i + 32)
blocks_next text from i k p ei lk h b eb nb =
    let e = p.at in
    record {
      count = p.count + 16;
      at = omega arith;
      few = omega arith;
      inside = h;
      good = good;
    }
  where
    all : all_digits text i 32 ≡ true
    all = sym eb ∙ not-false b nb

    good : (j : ℕ) → j < 2 * (p.count + 16) → is_digit (get_or text (from + j) 0) ≡ true
    good j l = go (ltb j (2 * p.count)) refl
      where
        go : (x : Bool) → ltb j (2 * p.count) ≡ x → is_digit (get_or text (from + j) 0) ≡ true
        go true q = p.good j (ltb-true j (2 * p.count) q)
        go false q =
            let m = ltb-false j (2 * p.count) q in
            let e = p.at in
            let s : from + j ≡ i + (j - 2 * p.count) = omega arith in
            rw s (all_each text i 32 (j - 2 * p.count) all (omega arith))

-- ---- words
module _ (text : List ℕ) (from : ℕ) (w₀ : List ℕ) where
  pub words_none : w₀ ≡ words_put text from w₀ 0
  unfolding words_put
  words_none = refl

  pub words_next : (k x : ℕ) (w : List ℕ) → w ≡ words_put text from w₀ k → x ≡ word_of (get_or text (from + 2 * k) 0) (get_or text (from + 2 * k + 1) 0) → set w k x ≡ words_put text from w₀ (k + 1)
  unfolding words_put
  words_next k x w e ex = let q : k + 1 ≡ suc k = omega arith in rw (q, e, ex)

  words_size : (m : ℕ) → length (words_put text from w₀ m) ≡ length w₀
  unfolding words_put
  words_size zero = refl
  words_size (suc m) = length-set (words_put text from w₀ m) m (word_of (get_or text (from + 2 * m) 0) (get_or text (from + 2 * m + 1) 0)) ∙ words_size m

  word_at : (m j : ℕ) → j < m → m ≤ length w₀ → get_or (words_put text from w₀ m) j 0 ≡ word_of (get_or text (from + 2 * j) 0) (get_or text (from + 2 * j + 1) 0)
  unfolding words_put
  word_at zero j l h = absurd (omega arith)
  word_at (suc m) j l h = go (λ k. word_at m j k (omega arith)) (eqb j m) refl
    where
      go : (j < m → get_or (words_put text from w₀ m) j 0 ≡ word_of (get_or text (from + 2 * j) 0) (get_or text (from + 2 * j + 1) 0)) → (x : Bool) → eqb j m ≡ x → get_or (words_put text from w₀ (suc m)) j 0 ≡ word_of (get_or text (from + 2 * j) 0) (get_or text (from + 2 * j + 1) 0)
      go f true q =
          let s = words_size m in
          rw (eqb-true j m q) (get_or-set_same (words_put text from w₀ m) m (word_of (get_or text (from + 2 * m) 0) (get_or text (from + 2 * m + 1) 0)) 0 (omega arith))
      go f false q =
          let n = eqb-false j m q in
          get_or-set_other (words_put text from w₀ m) m j (word_of (get_or text (from + 2 * m) 0) (get_or text (from + 2 * m + 1) 0)) 0 n ∙ f (omega arith)

-- ---- the bytes of words
module _ (w : List ℕ) (m : ℕ) (p : DigitWords w m) where
  pub first_digit : (k : ℕ) → k < m → is_digit (get_or w k 0 % 256) ≡ true
  first_digit k l = p.first k l

  pub second_digit : (k : ℕ) → k < m → is_digit (get_or w k 0 / 256) ≡ true
  second_digit k l = p.second k l

module _ (w out₀ : List ℕ) (to : ℕ) where
  pub bytes_none : out₀ ≡ bytes_put w out₀ to 0
  unfolding bytes_put
  bytes_none = refl

  pub bytes_next : (k x : ℕ) (out : List ℕ) → out ≡ bytes_put w out₀ to k → x ≡ pair_value (get_or w k 0 % 256) (get_or w k 0 / 256) → set out (to + k) x ≡ bytes_put w out₀ to (k + 1)
  unfolding bytes_put
  bytes_next k x out e ex = let q : k + 1 ≡ suc k = omega arith in rw (q, e, ex)

  bytes_size : (m : ℕ) → length (bytes_put w out₀ to m) ≡ length out₀
  unfolding bytes_put
  bytes_size zero = refl
  bytes_size (suc m) = length-set (bytes_put w out₀ to m) (to + m) (pair_value (get_or w m 0 % 256) (get_or w m 0 / 256)) ∙ bytes_size m

-- the bytes of words are those of the pairs that the words are made of
pairs_put : (text : List ℕ) (from : ℕ) (w out : List ℕ) (to m : ℕ)
    → ((j : ℕ) → j < m → (get_or w j 0 % 256 ≡ get_or text (from + 2 * j) 0) × (get_or w j 0 / 256 ≡ get_or text (from + 2 * j + 1) 0)) → bytes_put w out to m ≡ put_pairs text from out to m
unfolding bytes_put put_pairs
pairs_put text from w out to zero f = refl
pairs_put text from w out to (suc m) f = rw (pairs_put text from w out to m (λ j l. f j (omega arith)), (f m (omega arith)).0, (f m (omega arith)).1)

-- ---- blocks written as bytes
module _ (text : List ℕ) (from e : ℕ) (p : Blocks text from e) where
  pub pairs_few : (e - from) / 2 ≤ 256
  pairs_few = let q = p.at in let f = p.few in omega arith

  pub pairs_room : (out : List ℕ) (to : ℕ) → Ahead text out from to → to + (e - from) / 2 ≤ length out
  pairs_room out to a = let q = p.at in let i = p.inside in let r = a.room in omega arith

  pub no_blocks : (out : List ℕ) (to : ℕ) → e ≡ from → Puts text out out from to e (to + (e - from) / 2)
  unfolding put_pairs
  no_blocks out to q = record {
    count = 0;
    at = omega arith;
    on = omega arith;
    inside = p.inside;
    good = λ j l. absurd (omega arith);
    bytes = refl;
    size = refl;
  }

  module _ (w₀ w : List ℕ) (size : length w₀ ≡ 256) (ew : w ≡ words_put text from w₀ ((e - from) / 2)) where
    digits_at : (j : ℕ) → j < (e - from) / 2 → (is_digit (get_or text (from + 2 * j) 0) ≡ true) × (is_digit (get_or text (from + 2 * j + 1) 0) ≡ true)
    digits_at j l =
        let q = p.at in
        let s : from + 2 * j + 1 ≡ from + (2 * j + 1) = omega arith in
        (p.good (2 * j) (omega arith), rw s (p.good (2 * j + 1) (omega arith)))

    parts_at : (j : ℕ) → j < (e - from) / 2 → (get_or w j 0 % 256 ≡ get_or text (from + 2 * j) 0) × (get_or w j 0 / 256 ≡ get_or text (from + 2 * j + 1) 0)
    parts_at j l =
        let d = digits_at j l in
        let a = digit_top (get_or text (from + 2 * j) 0) d.0 in
        let f = pairs_few in
        let x : get_or w j 0 ≡ word_of (get_or text (from + 2 * j) 0) (get_or text (from + 2 * j + 1) 0) = rw ew (word_at text from w₀ ((e - from) / 2) j l (omega arith)) in
        (omega arith, omega arith)

    pub words_good : DigitWords w ((e - from) / 2)
    words_good = record {
      few = pairs_few;
      first = λ j l. rw (parts_at j l).0 (digits_at j l).0;
      second = λ j l. rw (parts_at j l).1 (digits_at j l).1;
    }

    pub blocks_put : (out₀ out : List ℕ) (to : ℕ) → out ≡ bytes_put w out₀ to ((e - from) / 2) → Puts text out₀ out from to e (to + (e - from) / 2)
    blocks_put out₀ out to eo =
        let q = p.at in
        record {
          count = (e - from) / 2;
          at = omega arith;
          on = refl;
          inside = p.inside;
          good = λ j l. pair_byte (get_or text (from + 2 * j) 0) (get_or text (from + 2 * j + 1) 0) (digits_at j l).0 (digits_at j l).1;
          bytes = eo ∙ pairs_put text from w out₀ to ((e - from) / 2) parts_at;
          size = rw eo (bytes_size w out₀ to ((e - from) / 2));
        }

-- ---- what is written by two functions, one after the other
pairs_on : (text out : List ℕ) (from to m n : ℕ) → put_pairs text from out to (m + n) ≡ put_pairs text (from + 2 * m) (put_pairs text from out to m) (to + m) n
unfolding put_pairs
pairs_on text out from to m zero = let e : m + 0 ≡ m = omega arith in rw e
pairs_on text out from to m (suc n) =
    let e : m + suc n ≡ suc (m + n) = omega arith in
    let a : to + (m + n) ≡ to + m + n = omega arith in
    let b : from + 2 * (m + n) ≡ from + 2 * m + 2 * n = omega arith in
    rw (e, pairs_on text out from to m n, a, b)

pub puts_on : (text out₀ out₁ out : List ℕ) (from to i o e k : ℕ) → Puts text out₀ out₁ from to i o → Puts text out₁ out i o e k → Puts text out₀ out from to e (to + (e - from) / 2)
puts_on text out₀ out₁ out from to i o e k p q =
    let pi = p.at in
    let po = p.on in
    let qi = q.at in
    record {
      count = p.count + q.count;
      at = omega arith;
      on = omega arith;
      inside = q.inside;
      good = good;
      bytes = q.bytes ∙ rw (pi, po, p.bytes) (sym (pairs_on text out₀ from to p.count q.count));
      size = q.size ∙ p.size;
    }
  where
    good : (j : ℕ) → j < p.count + q.count → pair_value (get_or text (from + 2 * j) 0) (get_or text (from + 2 * j + 1) 0) < 256
    good j l = go (ltb j p.count) refl
      where
        go : (x : Bool) → ltb j p.count ≡ x → pair_value (get_or text (from + 2 * j) 0) (get_or text (from + 2 * j + 1) 0) < 256
        go true z = p.good j (ltb-true j p.count z)
        go false z =
            let m = ltb-false j p.count z in
            let pi = p.at in
            let a : from + 2 * j ≡ i + 2 * (j - p.count) = omega arith in
            rw a (q.good (j - p.count) (omega arith))
