-- Laws of an object as numbers: its four codes as one number, the numbers beside them as one, and the sixteen bytes that class, count, codes and numbers make.
-- Not here: bytes read, compared and written (Bytes), what the codes stand for (Finds, Imported).
use Rattle.std.proofs.Common.{ℕ, zero, suc, ◌+◌, ◌-◌, ◌*◌, ◌/◌, ◌%◌, ◌<◌, ◌≤◌, arith, ◌≡◌, refl, ap, ap₂, ◌∙◌, subst, length, get_or}
use native.Mathlib.Decide.{dec_lt}
use Rattle.canon.specs.Figures.{object_size, code_count, numbers_at, undetermined_code, number_code, first_mark, three_bytes, four_bytes}
use Rattle.canon.specs.Layout.{number_at, ref_of, ref_in, Packed, part}
use Rattle.maker.specs.Figures.{unused_codes, three_pairs}
use Rattle.maker.specs.Adding.{codes_of, pairs_of, object_of, CodesLevel}

-- ---- the bytes
module _ (c n w v : ℕ) where
  pub object_class : get_or (object_of c n w v) 0 0 ≡ c
  unfolding object_of
  object_class = refl

  pub object_count : get_or (object_of c n w v) 1 0 ≡ n
  unfolding object_of
  object_count = refl

  pub object_code : (j : ℕ) → j < code_count → get_or (object_of c n w v) (2 + j) 0 ≡ get_or (codes_of w) j 0
  unfolding object_of codes_of
  object_code zero l = refl
  object_code (suc zero) l = refl
  object_code (suc (suc zero)) l = refl
  object_code (suc (suc (suc zero))) l = refl
  object_code (suc (suc (suc (suc j)))) l = absurd (omega arith)

  pub object_low : (j : ℕ) → j < 4 → get_or (object_of c n w v) (6 + j) 0 ≡ get_or (codes_of (v % four_bytes)) j 0
  unfolding object_of codes_of
  object_low zero l = refl
  object_low (suc zero) l = refl
  object_low (suc (suc zero)) l = refl
  object_low (suc (suc (suc zero))) l = refl
  object_low (suc (suc (suc (suc j)))) l = absurd (omega arith)

  pub object_high : (j : ℕ) → j < 4 → get_or (object_of c n w v) (10 + j) 0 ≡ get_or (codes_of (v / four_bytes)) j 0
  unfolding object_of codes_of
  object_high zero l = refl
  object_high (suc zero) l = refl
  object_high (suc (suc zero)) l = refl
  object_high (suc (suc (suc zero))) l = refl
  object_high (suc (suc (suc (suc j)))) l = absurd (omega arith)

  pub object_blank : (j : ℕ) → j < 2 → get_or (object_of c n w v) (14 + j) 0 ≡ 0
  unfolding object_of codes_of
  object_blank zero l = refl
  object_blank (suc zero) l = refl
  object_blank (suc (suc j)) l = absurd (omega arith)

  -- the number beside a code
  object_number : (j : ℕ) → j < code_count → number_at (object_of c n w v) (6 + 2 * j) ≡ get_or (pairs_of v) j 0
  unfolding object_of codes_of pairs_of
  object_number zero l = let e : v % four_bytes % 256 + 256 * (v % four_bytes / 256 % 256) ≡ v % 65536 = omega arith in e
  object_number (suc zero) l = let e : v % four_bytes / 65536 % 256 + 256 * (v % four_bytes / three_bytes) ≡ v / 65536 % 65536 = omega arith in e
  object_number (suc (suc zero)) l = let e : v / four_bytes % 256 + 256 * (v / four_bytes / 256 % 256) ≡ v / four_bytes % 65536 = omega arith in e
  object_number (suc (suc (suc zero))) l = let e : v / four_bytes / 65536 % 256 + 256 * (v / four_bytes / three_bytes) ≡ v / three_pairs = omega arith in e
  object_number (suc (suc (suc (suc j)))) l = absurd (omega arith)

  object_byte : (j : ℕ) → j < code_count → get_or (object_of c n w v) (6 + 2 * j) 0 < 256
  unfolding object_of codes_of
  object_byte zero l = let e : v % four_bytes % 256 < 256 = omega arith in e
  object_byte (suc zero) l = let e : v % four_bytes / 65536 % 256 < 256 = omega arith in e
  object_byte (suc (suc zero)) l = let e : v / four_bytes % 256 < 256 = omega arith in e
  object_byte (suc (suc (suc zero))) l = let e : v / four_bytes / 65536 % 256 < 256 = omega arith in e
  object_byte (suc (suc (suc (suc j)))) l = absurd (omega arith)

  -- a field
  pub object_ref : (j : ℕ) → j < code_count → ref_in (object_of c n w v) 0 j ≡ ref_of (get_or (codes_of w) j 0) (get_or (pairs_of v) j 0)
  unfolding ref_in
  object_ref j l = ap₂ ref_of (object_code j l) (object_number j l)

  pub object_length : length (object_of c n w v) ≡ object_size
  unfolding object_of codes_of
  object_length = refl

  pub object_whole : part (object_of c n w v) 0 object_size ≡ object_of c n w v
  unfolding object_of codes_of
  object_whole = refl

  -- codes that are not there undetermined, and numbers beside the code of numbers only
  pub codes_packed : n ≤ code_count → ((j : ℕ) → n ≤ j → j < code_count → get_or (codes_of w) j 0 ≡ undetermined_code)
      → ((j : ℕ) → j < code_count → ((get_or (codes_of w) j 0 ≡ number_code) → ⊥) → get_or (pairs_of v) j 0 ≡ 0) → Packed (object_of c n w v) 0
  codes_packed few h plain = record {
    count = omega (arith, object_count);
    spare = spare;
    plain = λ f l d. object_number f l ∙ plain f l (λ e. d (object_code f l ∙ e));
    low = object_byte;
    blank = λ k l m. let e : 0 + k ≡ 14 + (k - 14) = omega arith in rw e (object_blank (k - 14) (omega arith));
  }
    where
      spare : (k : ℕ) → 2 + get_or (object_of c n w v) (0 + 1) 0 ≤ k → k < numbers_at → get_or (object_of c n w v) (0 + k) 0 ≡ undetermined_code
      spare k l m =
          let e : 0 + k ≡ 2 + (k - 2) = omega (arith, object_count) in
          ap (λ (x : ℕ). get_or (object_of c n w v) x 0) e ∙ object_code (k - 2) (omega arith) ∙ h (k - 2) (omega (arith, object_count)) (omega (arith, object_count))

-- what holds of the head, of the codes, of both halves of the numbers and of the blank bytes holds of every byte of an object
pub sections : (P : ℕ → Type 0) → P 0 → P 1 → ((j : ℕ) → j < 4 → P (2 + j)) → ((j : ℕ) → j < 4 → P (6 + j)) → ((j : ℕ) → j < 4 → P (10 + j)) → ((j : ℕ) → j < 2 → P (14 + j))
    → (q : ℕ) → q < object_size → P q
sections P class count codes low high blank q h = go q h (dec_lt q 6) (dec_lt q 10) (dec_lt q 14)
  where
    front : (q : ℕ) → q < 6 → P q
    front zero l = class
    front (suc zero) l = count
    front (suc (suc q)) l = let e : 2 + q ≡ suc (suc q) = omega arith in subst P e (codes q (omega arith))

    go : (q : ℕ) → q < object_size → Dec (q < 6) → Dec (q < 10) → Dec (q < 14) → P q
    go q h (yes l) b c = front q l
    go q h (no l) (yes b) c = let e : 6 + (q - 6) ≡ q = omega (arith, l) in subst P e (low (q - 6) (omega (arith, l)))
    go q h (no l) (no b) (yes c) = let e : 10 + (q - 10) ≡ q = omega (arith, b) in subst P e (high (q - 10) (omega (arith, b)))
    go q h (no l) (no b) (no c) = let e : 14 + (q - 14) ≡ q = omega (arith, c) in subst P e (blank (q - 14) (omega (arith, c)))

-- ---- the codes and the numbers
-- four codes undetermined, and no numbers
pub spare_codes : (j : ℕ) → j < code_count → get_or (codes_of unused_codes) j 0 ≡ undetermined_code
unfolding codes_of
spare_codes zero h = refl
spare_codes (suc zero) h = refl
spare_codes (suc (suc zero)) h = refl
spare_codes (suc (suc (suc zero))) h = refl
spare_codes (suc (suc (suc (suc j)))) h = absurd (omega arith)

pub spare_numbers : (j : ℕ) → j < code_count → get_or (pairs_of 0) j 0 ≡ 0
unfolding pairs_of
spare_numbers zero h = refl
spare_numbers (suc zero) h = refl
spare_numbers (suc (suc zero)) h = refl
spare_numbers (suc (suc (suc zero))) h = refl
spare_numbers (suc (suc (suc (suc j)))) h = absurd (omega arith)

-- one code before the others, the last of which goes
module _ (r w : ℕ) (h : r < 256) where
  pub first_code : get_or (codes_of (r + 256 * (w % three_bytes))) 0 0 ≡ r
  unfolding codes_of
  first_code = let e : (r + 256 * (w % three_bytes)) % 256 ≡ r = omega arith in e

  pub next_code : (j : ℕ) → j < 3 → get_or (codes_of (r + 256 * (w % three_bytes))) (suc j) 0 ≡ get_or (codes_of w) j 0
  unfolding codes_of
  next_code zero l = let e : (r + 256 * (w % three_bytes)) / 256 % 256 ≡ w % 256 = omega arith in e
  next_code (suc zero) l = let e : (r + 256 * (w % three_bytes)) / 65536 % 256 ≡ w / 256 % 256 = omega arith in e
  next_code (suc (suc zero)) l = let e : (r + 256 * (w % three_bytes)) / three_bytes ≡ w / 65536 % 256 = omega arith in e
  next_code (suc (suc (suc j))) l = absurd (omega arith)

-- one number
module _ (r v : ℕ) (h : r < 65536) where
  pub first_number : get_or (pairs_of (r + 65536 * (v % three_pairs))) 0 0 ≡ r
  unfolding pairs_of
  first_number = let e : (r + 65536 * (v % three_pairs)) % 65536 ≡ r = omega arith in e

  pub next_number : (j : ℕ) → j < 3 → get_or (pairs_of (r + 65536 * (v % three_pairs))) (suc j) 0 ≡ get_or (pairs_of v) j 0
  unfolding pairs_of
  next_number zero l = let e : (r + 65536 * (v % three_pairs)) / 65536 % 65536 ≡ v % 65536 = omega arith in e
  next_number (suc zero) l = let e : (r + 65536 * (v % three_pairs)) / four_bytes % 65536 ≡ v / 65536 % 65536 = omega arith in e
  next_number (suc (suc zero)) l = let e : (r + 65536 * (v % three_pairs)) / three_pairs ≡ v / four_bytes % 65536 = omega arith in e
  next_number (suc (suc (suc j))) l = absurd (omega arith)

-- four codes together
pub codes_join : (a b c d w : ℕ) → a < 256 → b < 256 → c < 256 → w ≡ a + 256 * b + 65536 * c + three_bytes * d → (P : ℕ → ℕ → Type 0) → P 0 a → P 1 b → P 2 c → P 3 d → (j : ℕ) → j < code_count → P j (get_or (codes_of w) j 0)
unfolding codes_of
codes_join a b c d w ha hb hc e P pa pb pc pd zero l = subst (P 0) (let z : a ≡ w % 256 = omega arith in z) pa
codes_join a b c d w ha hb hc e P pa pb pc pd (suc zero) l = subst (P 1) (let z : b ≡ w / 256 % 256 = omega arith in z) pb
codes_join a b c d w ha hb hc e P pa pb pc pd (suc (suc zero)) l = subst (P 2) (let z : c ≡ w / 65536 % 256 = omega arith in z) pc
codes_join a b c d w ha hb hc e P pa pb pc pd (suc (suc (suc zero))) l = subst (P 3) (let z : d ≡ w / three_bytes = omega arith in z) pd
codes_join a b c d w ha hb hc e P pa pb pc pd (suc (suc (suc (suc j)))) l = absurd (omega arith)

-- ---- the level
pub codes_level : (w m1 m2 m3 m : ℕ) → w / three_bytes < first_mark + m → m3 ≤ m → w / 65536 % 256 < first_mark + m3 → m2 ≤ m3 → w / 256 % 256 < first_mark + m2 → m1 ≤ m2
    → w % 256 < first_mark + m1 → CodesLevel w m
unfolding codes_of
codes_level w m1 m2 m3 m h4 l3 h3 l2 h2 l1 h1 = record { below = below }
  where
    below : (j : ℕ) → j < code_count → get_or (codes_of w) j 0 < first_mark + m
    below zero h = let e : w % 256 < first_mark + m = omega arith in e
    below (suc zero) h = let e : w / 256 % 256 < first_mark + m = omega arith in e
    below (suc (suc zero)) h = let e : w / 65536 % 256 < first_mark + m = omega arith in e
    below (suc (suc (suc zero))) h = let e : w / three_bytes < first_mark + m = omega arith in e
    below (suc (suc (suc (suc j)))) h = absurd (omega arith)

pub unused_level : CodesLevel unused_codes 0
unused_level = record { below = λ j h. omega (arith, spare_codes j h) }
