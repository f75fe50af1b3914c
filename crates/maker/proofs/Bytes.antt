-- Laws of the bytes of an object: read as numbers, compared with an object as numbers, and written; the laws of `is_object`, `lay_two`, `lay_four` and `lay`.
-- Not here: what these bytes are (Codes).
use Rattle.std.proofs.Common.{ℕ, zero, suc, ◌+◌, ◌-◌, ◌*◌, ◌/◌, ◌%◌, ◌<◌, ◌≤◌, arith, ◌≡◌, refl, sym, ap, ◌∙◌, subst, Bool, true, false, List, [], ◌∷◌, eqb, length, get_or, set, eqb-true, eq-eqb, w32}
use native.Mathlib.Decide.{dec_lt}
use Rattle.std.specs.Int.{to_le_bytes}
use Rattle.cofj.specs.Values.{eq_nats}
use Rattle.cofj.proofs.Basics.{eq_nats_true}
use Rattle.canon.specs.Figures.{object_size, numbers_at, blank_at, three_bytes, four_bytes}
use Rattle.canon.specs.Layout.{Packed, part}
use Rattle.canon.specs.Tables.{Four, Eight, Carried}
use Rattle.canon.proofs.Nodes.{at_part, parts_same}
use Rattle.canon.proofs.Runs.{eq_nats_same, tests_same, carry_none, carry_more}
use Rattle.maker.specs.Adding.{codes_of, object_of}
use Rattle.maker.proofs.Codes.{object_class, object_count, object_code, object_low, object_high, object_blank, object_length, object_whole, sections}

-- ---- bytes read as numbers
number_of : (w : ℕ) → w ≡ get_or (codes_of w) 0 0 + 256 * get_or (codes_of w) 1 0 + 65536 * get_or (codes_of w) 2 0 + three_bytes * get_or (codes_of w) 3 0
unfolding codes_of
number_of w = let e : w ≡ w % 256 + 256 * (w / 256 % 256) + 65536 * (w / 65536 % 256) + three_bytes * (w / three_bytes) = omega arith in e

module _ (W : List ℕ) (p x : ℕ) (f : Four W p x) where
  four_bytes_lem : (j : ℕ) → j < 4 → get_or W (p + j) 0 ≡ get_or (codes_of x) j 0
  unfolding codes_of
  four_bytes_lem zero h = ap (λ (k : ℕ). get_or W k 0) (let z : p + 0 ≡ p = omega arith in z) ∙ (let e : get_or W p 0 ≡ x % 256 = omega (arith, f.is, f.low0) in e)
  four_bytes_lem (suc zero) h = let e : get_or W (p + 1) 0 ≡ x / 256 % 256 = omega (arith, f.is, f.low0, f.low1) in e
  four_bytes_lem (suc (suc zero)) h = let e : get_or W (p + 2) 0 ≡ x / 65536 % 256 = omega (arith, f.is, f.low0, f.low1, f.low2) in e
  four_bytes_lem (suc (suc (suc zero))) h = let e : get_or W (p + 3) 0 ≡ x / three_bytes = omega (arith, f.is, f.low0, f.low1, f.low2) in e
  four_bytes_lem (suc (suc (suc (suc j)))) h = absurd (omega arith)

  -- and back
  four_is : (w : ℕ) → ((j : ℕ) → j < 4 → get_or W (p + j) 0 ≡ get_or (codes_of w) j 0) → x ≡ w
  four_is w h =
      let z : p + 0 ≡ p = omega arith in
      omega (arith, f.is, rw z at (h 0 (omega arith)), h 1 (omega arith), h 2 (omega arith), h 3 (omega arith), number_of w)

-- the halves of eight bytes
module _ (W : List ℕ) (p v : ℕ) (g : Eight W p v) where
  low_half : Four W p (v % four_bytes)
  low_half =
      let e : g.low ≡ v % four_bytes = omega (arith, g.is, g.first.is, g.first.low0, g.first.low1, g.first.low2, g.first.low3) in
      subst (Four W p) e g.first

  high_half : Four W (p + 4) (v / four_bytes)
  high_half =
      let e : g.high ≡ v / four_bytes = omega (arith, g.is, g.first.is, g.first.low0, g.first.low1, g.first.low2, g.first.low3) in
      subst (Four W (p + 4)) e g.last

-- the bytes of an object after its codes
module _ (W : List ℕ) (p v : ℕ) (g : Eight W (p + numbers_at) v) (pk : Packed W p) where
  low_bytes : (j : ℕ) → j < 4 → get_or W (p + (6 + j)) 0 ≡ get_or (codes_of (v % four_bytes)) j 0
  low_bytes j h = let e : p + (6 + j) ≡ p + 6 + j = omega arith in rw e (four_bytes_lem W (p + 6) (v % four_bytes) (low_half W (p + 6) v g) j h)

  high_bytes : (j : ℕ) → j < 4 → get_or W (p + (10 + j)) 0 ≡ get_or (codes_of (v / four_bytes)) j 0
  high_bytes j h = let e : p + (10 + j) ≡ p + 6 + 4 + j = omega arith in rw e (four_bytes_lem W (p + 6 + 4) (v / four_bytes) (high_half W (p + 6) v g) j h)

  module _ (c n w : ℕ) where
    pub object_rest : (q : ℕ) → numbers_at ≤ q → q < object_size → get_or (object_of c n w v) q 0 ≡ get_or W (p + q) 0
    object_rest q l h =
        sections (λ q. numbers_at ≤ q → get_or (object_of c n w v) q 0 ≡ get_or W (p + q) 0) (λ u. absurd (omega arith)) (λ u. absurd (omega arith)) (λ j m u. absurd (omega arith))
        (λ j m u. object_low c n w v j m ∙ sym (low_bytes j m)) (λ j m u. object_high c n w v j m ∙ sym (high_bytes j m))
        (λ j m u. object_blank c n w v j m ∙ sym (pk.blank (14 + j) (omega arith) (omega arith))) q h l

  -- all of them
  module _ (x : ℕ) (f : Four W (p + 2) x) where
    object_bytes : (q : ℕ) → q < object_size → get_or W (p + q) 0 ≡ get_or (object_of (get_or W p 0) (get_or W (p + 1) 0) x v) q 0
    object_bytes =
        sections (λ q. get_or W (p + q) 0 ≡ get_or (object_of (get_or W p 0) (get_or W (p + 1) 0) x v) q 0)
        (ap (λ (k : ℕ). get_or W k 0) (let e : p + 0 ≡ p = omega arith in e) ∙ sym (object_class _ _ x v)) (sym (object_count _ _ x v))
        (λ j h. let e : p + (2 + j) ≡ p + 2 + j = omega arith in rw e (four_bytes_lem W (p + 2) x f j h) ∙ sym (object_code _ _ x v j h))
        (λ j h. low_bytes j h ∙ sym (object_low _ _ x v j h)) (λ j h. high_bytes j h ∙ sym (object_high _ _ x v j h))
        (λ j h. pk.blank (14 + j) (omega arith) (omega arith) ∙ sym (object_blank _ _ x v j h))

    object_at : p + object_size ≤ length W → part W p object_size ≡ object_of (get_or W p 0) (get_or W (p + 1) 0) x v
    object_at h =
        parts_same W (object_of (get_or W p 0) (get_or W (p + 1) 0) x v) p 0 object_size h (omega (arith, object_length (get_or W p 0) (get_or W (p + 1) 0) x v))
        (λ q l. object_bytes q l ∙ ap (λ (k : ℕ). get_or (object_of (get_or W p 0) (get_or W (p + 1) 0) x v) k 0) (let e : q ≡ 0 + q = omega arith in e))
        ∙ object_whole (get_or W p 0) (get_or W (p + 1) 0) x v

-- ---- equal objects
module _ (W : List ℕ) (p c n w v : ℕ) (h : p + object_size ≤ length W) where
  differs : ((part W p object_size ≡ object_of c n w v) → ⊥) → false ≡ eq_nats (part W p object_size) (object_of c n w v)
  differs d = go (eq_nats (part W p object_size) (object_of c n w v)) refl
    where
      go : (r : Bool) → eq_nats (part W p object_size) (object_of c n w v) ≡ r → false ≡ r
      go true e = absurd (d (eq_nats_true _ _ e))
      go false e = refl

  byte_of : part W p object_size ≡ object_of c n w v → (q : ℕ) → q < object_size → get_or W (p + q) 0 ≡ get_or (object_of c n w v) q 0
  byte_of e q l = sym (at_part W p object_size h q l) ∙ ap (λ (x : List ℕ). get_or x q 0) e

  pub other_class : ((get_or W p 0 ≡ c) → ⊥) → false ≡ eq_nats (part W p object_size) (object_of c n w v)
  other_class d = differs (λ e. let z : p + 0 ≡ p = omega arith in d (rw z at (byte_of e 0 (omega arith)) ∙ object_class c n w v))

  module _ (x : ℕ) (f : Four W (p + 2) x) where
    pub other_codes : ((x ≡ w) → ⊥) → false ≡ eq_nats (part W p object_size) (object_of c n w v)
    other_codes d = differs (λ e. d (four_is W (p + 2) x f w (λ j l.
        let z : p + 2 + j ≡ p + (2 + j) = omega arith in rw z (byte_of e (2 + j) (omega arith)) ∙ object_code c n w v j l)))

    module _ (y : ℕ) (g : Eight W (p + numbers_at) y) where
      pub other_numbers : ((y ≡ v) → ⊥) → false ≡ eq_nats (part W p object_size) (object_of c n w v)
      other_numbers d = differs (λ e. d (same e))
        where
          same : part W p object_size ≡ object_of c n w v → y ≡ v
          same e =
              let low : y % four_bytes ≡ v % four_bytes = four_is W (p + 6) (y % four_bytes) (low_half W (p + 6) y g) (v % four_bytes) (λ j l.
              let z : p + 6 + j ≡ p + (6 + j) = omega arith in rw z (byte_of e (6 + j) (omega arith)) ∙ object_low c n w v j l) in
              let high : y / four_bytes ≡ v / four_bytes = four_is W (p + 6 + 4) (y / four_bytes) (high_half W (p + 6) y g) (v / four_bytes) (λ j l.
              let z : p + 6 + 4 + j ≡ p + (10 + j) = omega arith in rw z (byte_of e (10 + j) (omega arith)) ∙ object_high c n w v j l) in
              omega arith

      pub by_count : Packed W p → x ≡ w → y ≡ v → get_or W p 0 ≡ c → eqb (get_or W (p + 1) 0) n ≡ eq_nats (part W p object_size) (object_of c n w v)
      by_count pk ex ey ec =
          tests_same (eqb (get_or W (p + 1) 0) n) (eq_nats (part W p object_size) (object_of c n w v))
          (λ e. let en : get_or W (p + 1) 0 ≡ n = eqb-true _ _ e in eq_nats_same _ _ (object_at W p y g pk x f h ∙ (λ i. object_of (ec i) (en i) (ex i) (ey i))))
          (λ e. eq-eqb _ _ (byte_of (eq_nats_true _ _ e) 1 (omega arith) ∙ object_count c n w v))

-- ---- the bytes written
pub bytes_are_codes : (x : ℕ) → x < four_bytes → to_le_bytes w32 x ≡ codes_of x
unfolding codes_of
bytes_are_codes x h =
    let last : x / three_bytes % 256 ≡ x / three_bytes = omega arith in
    ap (λ (d : ℕ). x % 256 ∷ x / 256 % 256 ∷ x / 65536 % 256 ∷ d ∷ []) last

pub four-put : (W W' B : List ℕ) (p x : ℕ) → x < four_bytes → B ≡ to_le_bytes w32 x → Carried B 0 W p 4 W' → Carried (codes_of x) 0 W p 4 W'
four-put W W' B p x h e c = subst (λ (T : List ℕ). Carried T 0 W p 4 W') (e ∙ bytes_are_codes x h) c

-- one run after another
carry_on : (T S W : List ℕ) (p k m q : ℕ) (D E : List ℕ) → q ≡ p + k → Carried T 0 W p k D → Carried S 0 D q m E → ((j : ℕ) → j < m → get_or T (k + j) 0 ≡ get_or S j 0) → Carried T 0 W p (k + m) E
carry_on T S W p k m q D E e a b t = record {
  same = b.same ∙ a.same;
  here = λ i h. here i h (dec_lt i k);
  below = λ i h. b.below i (omega arith) ∙ a.below i h;
  above = λ i h. b.above i (omega arith) ∙ a.above i (omega arith);
}
  where
    here : (i : ℕ) → i < k + m → Dec (i < k) → get_or E (p + i) 0 ≡ get_or T (0 + i) 0
    here i h (yes l) = b.below (p + i) (omega arith) ∙ a.here i l
    here i h (no l) =
        let z : p + i ≡ q + (i - k) = omega (arith, l) in
        let y : k + (i - k) ≡ 0 + i = omega (arith, l) in
        let u : 0 + (i - k) ≡ i - k = omega arith in
        rw z (b.here (i - k) (omega (arith, l))) ∙ ap (λ (r : ℕ). get_or S r 0) u ∙ sym (t (i - k) (omega (arith, l))) ∙ ap (λ (r : ℕ). get_or T r 0) y

pub two_put : (W : List ℕ) (p a b : ℕ) → p + 2 ≤ length W → Carried (a ∷ b ∷ []) 0 W p 2 (set (set W p a) (p + 1) b)
two_put W p a b h =
    let T : List ℕ = a ∷ b ∷ [] in
    let z : p + 0 ≡ p = omega arith in
    let c1 : Carried T 0 W p 1 (set W p a) = rw z at (carry_more T 0 W p 0 W 2 (carry_none T 0 W p) (omega arith) h) in
    carry_more T 0 W p 1 _ 2 c1 (omega arith) h

pub object_put : (W : List ℕ) (p c n w v : ℕ) (D1 : List ℕ) → Carried (c ∷ n ∷ []) 0 W p 2 D1 → (D2 : List ℕ) → Carried (codes_of w) 0 D1 (p + 2) 4 D2
    → (D3 : List ℕ) → Carried (codes_of (v % four_bytes)) 0 D2 (p + numbers_at) 4 D3 → (D4 : List ℕ) → Carried (codes_of (v / four_bytes)) 0 D3 (p + numbers_at + 4) 4 D4
    → (D5 : List ℕ) → Carried (0 ∷ 0 ∷ []) 0 D4 (p + blank_at) 2 D5 → Carried (object_of c n w v) 0 W p object_size D5
object_put W p c n w v D1 a D2 b D3 d D4 e D5 g =
    let T : List ℕ = object_of c n w v in
    let z : p ≡ p + 0 = omega arith in
    let c2 : Carried T 0 W p 2 D1 = carry_on T (c ∷ n ∷ []) W p 0 2 p W D1 z (carry_none T 0 W p) a head in
    let c6 : Carried T 0 W p 6 D2 = carry_on T (codes_of w) W p 2 4 (p + 2) D1 D2 refl c2 b (object_code c n w v) in
    let c10 : Carried T 0 W p 10 D3 = carry_on T (codes_of (v % four_bytes)) W p 6 4 (p + 6) D2 D3 refl c6 d (object_low c n w v) in
    let c14 : Carried T 0 W p 14 D4 = carry_on T (codes_of (v / four_bytes)) W p 10 4 (p + 6 + 4) D3 D4 (omega arith) c10 e (object_high c n w v) in
    carry_on T (0 ∷ 0 ∷ []) W p 14 2 (p + 14) D4 D5 refl c14 g blank
  where
    head : (j : ℕ) → j < 2 → get_or (object_of c n w v) (0 + j) 0 ≡ get_or (c ∷ n ∷ []) j 0
    head zero l = object_class c n w v
    head (suc zero) l = object_count c n w v
    head (suc (suc j)) l = absurd (omega arith)

    blank : (j : ℕ) → j < 2 → get_or (object_of c n w v) (14 + j) 0 ≡ get_or (0 ∷ 0 ∷ []) j 0
    blank zero l = object_blank c n w v 0 l
    blank (suc zero) l = object_blank c n w v 1 l
    blank (suc (suc j)) l = absurd (omega arith)
