-- Laws of decoding, in the form in which the goals of `decode` and `decode_lines` cite them: what the loop keeps, and one for each return.
-- Not here: what a caller learns from the contract (Established).
use Rattle.std.proofs.Common.{ℕ, zero, suc, ◌+◌, ◌-◌, ◌*◌, ◌<◌, ◌≤◌, arith, ◌≡◌, refl, sym, ap, ◌∙◌, Bool, true, false, not, ◌&&◌, List, [], ◌∷◌, ◌++◌, append_assoc, append-nil, reverse, eqb, length, get_or, set, drop, length-append, length-set, Ok, Err, ne_eqb, eqb-true}
use mathlib.Core.List.{reverse-cons}
use Rattle.std.proofs.Math.Option.{Option, none, some}
use Rattle.std.proofs.Math.ListN.{length-reverse}
use Rattle.std.proofs.Math.Seq.{set_at}
use borrow.Author.Tests.{eqb-false, not-true, not-false}
use Rattle.cofj.specs.Limits.{line_size, text_size}
use Rattle.cofj.specs.Partial.{◌>>=◌, guard}
use Rattle.cofj.specs.Text.{within, digit, end_line, lines_from, lines}
use Rattle.cofj.proofs.TextRound.{within_true}
use Rattle.cofj.specs.declared.Refusal.TheVariants.{NoLineForm}
use Rattle.lineform.specs.Packed.{packed}
use Rattle.lineform.specs.Answers.{Decodes, ends_line, pair_value, put_pairs, Puts}
use Rattle.lineform.proofs.Ends.{more, no_more}
use Rattle.lineform.proofs.HexLaws.{below, above, inside, pair_of, pair_is, pair_none, pair_goes_on, first_byte, second_byte, third_byte}
use Rattle.lineform.proofs.PackedLaws.{packed-append}

-- ---- the definition, two characters at a time
-- lines in front of what the rest of the text gives
abbrev pub ahead : List (List ℕ) → Option (List (List ℕ)) → Option (List (List ℕ))
ahead done none = none
ahead done (some ls) = some (done ++ ls)

ahead_none : (o : Option (List (List ℕ))) → o ≡ ahead [] o
ahead_none none = refl
ahead_none (some ls) = refl

ahead_ahead : (a b : List (List ℕ)) (o : Option (List (List ℕ))) → ahead a (ahead b o) ≡ ahead (a ++ b) o
ahead_ahead a b none = refl
ahead_ahead a b (some ls) = ap {B = Option (List (List ℕ))} some (sym (append_assoc a b ls))

two : (a b : Option ℕ) (t : Bool) (f : ℕ → Option (List (List ℕ))) → (t ≡ true → b ≡ none)
    → ◌≡◌ {A = Option (List (List ℕ))} (a >>= λ h. elim t [ true ↦ none | false ↦ b >>= λ d. f (16 * h + d) ]) ((a >>= λ h. b >>= λ d. some (16 * h + d)) >>= f)
two none b t f ends = refl
two (some h) b true f ends = rw (ends refl)
two (some h) none false f ends = refl
two (some h) (some d) false f ends = refl

one : (a : Option ℕ) → ◌≡◌ {A = Option (List (List ℕ))} (a >>= λ h. none) none
one none = refl
one (some h) = refl

byte-lines : (c : ℕ) (r bs : List ℕ) → (c ≡ 10 → ⊥) → lines_from (c ∷ r) none bs ≡ pair_of (c ∷ r) >>= λ v. lines_from (drop 1 r) none (v ∷ bs)
unfolding lines_from
byte-lines c [] bs n = rw (ne_eqb c 10 n, lines_from) (one (digit c))
byte-lines c (b ∷ r) bs n =
    rw (ne_eqb c 10 n, lines_from) (two (digit c) (digit b) (eqb b 10) (λ v. lines_from r none (v ∷ bs)) (λ q. ap digit (eqb-true b 10 q)))

end_lines : (r bs : List ℕ) → lines_from (10 ∷ r) none bs ≡ end_line none bs (lines_from r none [])
unfolding lines_from
end_lines r bs = refl

-- ---- a line's end
-- a line that ends has a byte: the pace is kept
pub line_pace : (i w o c n : ℕ) (b : Bool) → b ≡ ends_line c n → not b ≡ false → n ≡ o - w - 1 → 4 * o ≤ 2 * i + w + 4 → 4 * (o + 1) ≤ 2 * (i + 1) + o + 4
line_pace i w o c n b e z en pace = go (eqb c 10) (sym e ∙ not-false b z)
  where
    go : (x : Bool) → x && within 1 line_size n ≡ true → 4 * (o + 1) ≤ 2 * (i + 1) + o + 4
    go true q = let k = within_true 1 line_size n q in omega arith
    go false q = let k : ◌≡◌ {A = ℕ} 0 1 = cc in absurd (omega arith)

-- c ends the line bs, the last byte first
record Ends (c : ℕ) (bs : List ℕ) : Type 0 where
  is : c ≡ 10
  sized : within 1 line_size (length bs) ≡ true

ends_line_lem : (c : ℕ) (bs : List ℕ) → ends_line c (length bs) ≡ true → Ends c bs
ends_line_lem c bs = go (eqb c 10) refl
  where
    go : (b : Bool) → eqb c 10 ≡ b → b && within 1 line_size (length bs) ≡ true → Ends c bs
    go true q e = record { is = eqb-true c 10 q; sized = e }
    go false q e = let z : ◌≡◌ {A = ℕ} 0 1 = cc in absurd (omega arith)

ended : (c : ℕ) (r bs : List ℕ) → ends_line c (length bs) ≡ true → lines_from (c ∷ r) none bs ≡ ahead (reverse bs ∷ []) (lines_from r none [])
ended c r bs e =
    let h = ends_line_lem c bs e in
    rw (h.is, end_lines r bs, h.sized) (go (lines_from r none []))
  where
    go : (o : Option (List (List ℕ))) → o >>= (λ ls. some (reverse bs ∷ ls)) ≡ ahead (reverse bs ∷ []) o
    go none = refl
    go (some ls) = refl

-- what ends no line and begins no byte is refused
not_ended : (c : ℕ) (r bs : List ℕ) → ends_line c (length bs) ≡ false → pair_of (c ∷ r) ≡ none → lines_from (c ∷ r) none bs ≡ none
not_ended c r bs e p = go (eqb c 10) refl e
  where
    go : (b : Bool) → eqb c 10 ≡ b → b && within 1 line_size (length bs) ≡ false → lines_from (c ∷ r) none bs ≡ none
    go true q z = rw (eqb-true c 10 q, end_lines r bs, z)
    go false q z = byte-lines c r bs (eqb-false c 10 q) ∙ rw p

-- ---- what the loop keeps
pub record Reading (text out₀ out : List ℕ) (i w o : ℕ) : Type 0 where
  pub done : List (List ℕ)
  pub line : List ℕ
  pub gives : lines_from text none [] ≡ ahead done (lines_from (drop i text) none line)
  pub place : length (packed done) ≡ w
  pub size : w + 1 + length line ≡ o
  pub bytes : out ≡ packed done ++ (get_or out₀ w 0 ∷ (reverse line ++ drop o out₀))

pub reading_none : (text out : List ℕ) → 2 * length text + 10 ≤ 3 * length out → Reading text out out 0 0 1
unfolding packed
reading_none text out room = record {
  done = [];
  line = [];
  gives = ahead_none (lines_from text none []);
  place = refl;
  size = refl;
  bytes = more out 0 (omega arith);
}

put : (p r D : List ℕ) (g y v n : ℕ) → length p + 1 + length r ≡ n → set (p ++ (g ∷ (r ++ (y ∷ D)))) n v ≡ p ++ (g ∷ ((r ++ (v ∷ [])) ++ D))
put p r D g y v n e =
    rw (← (append_assoc p (g ∷ r) (y ∷ D)), append_assoc r (v ∷ []) D)
    (set_at (p ++ (g ∷ r)) y D v n (length-append p (g ∷ r) ∙ (let w : length p + length (g ∷ r) ≡ n = omega arith in w)) ∙ append_assoc p (g ∷ r) (v ∷ D))

nil : (l : List ℕ) → length l ≡ 0 → l ≡ []
nil [] h = refl
nil (x ∷ l) h = absurd (omega arith)

open_line : (bs : List ℕ) → 0 < length bs → lines_from [] none bs ≡ none
unfolding lines_from
open_line [] h = absurd (omega arith)
open_line (b ∷ bs) h = refl

closed_line : lines_from [] none [] ≡ some []
unfolding lines_from
closed_line = refl

-- ---- refusals
no_lines : (text out₀ out : List ℕ) → lines text ≡ none → Decodes text out₀ out (Err NoLineForm)
no_lines text out₀ out n = record { answer = rw n; written = λ ls q. let z : ◌≡◌ {A = ℕ} 0 1 = cc in absurd (omega arith) }

refuses : (text out₀ out : List ℕ) → lines_from text none [] ≡ none → Decodes text out₀ out (Err NoLineForm)
unfolding lines
refuses text out₀ out e = no_lines text out₀ out (go (within 1 text_size (length text)))
  where
    go : (b : Bool) → guard b >>= (λ _. lines_from text none []) ≡ none
    go true = e
    go false = refl

pub empty_text : (text out : List ℕ) → length text ≡ 0 → Decodes text out out (Err NoLineForm)
unfolding lines
empty_text text out h = no_lines text out out (rw (below 1 text_size (length text) (omega arith)))

pub long_text : (text out : List ℕ) → 49567 < length text → Decodes text out out (Err NoLineForm)
unfolding lines
long_text text out h = no_lines text out out (rw (above 1 text_size (length text) (omega arith) h))

-- the whole text is read, and no line is open
all_read : (text out₀ out : List ℕ) (i w : ℕ) → Reading text out₀ out i w (w + 1) → 1 ≤ length text → length text ≤ 49567 → w < length out₀ → length text ≤ i → Decodes text out₀ out (Ok w)
unfolding lines
all_read text out₀ out i w r one short room hi =
    let el : r.line ≡ [] = nil r.line (omega (arith, r.size)) in
    let e0 : lines_from (drop i text) none r.line ≡ some [] = rw (no_more text i hi, el) closed_line in
    let g : lines_from text none [] ≡ some r.done = r.gives ∙ ap (ahead r.done) e0 ∙ ap {B = Option (List (List ℕ))} some (append-nil r.done) in
    let e2 : lines text ≡ some r.done = rw (inside 1 text_size (length text) one short) g in
    let wd : out ≡ packed r.done ++ drop w out₀ = r.bytes ∙ rw (el, more out₀ w room) in
    record {
      answer = rw (e2, r.place);
      written = λ ls q. let e : r.done ≡ ls = cc in rw (← e, r.place) wd;
    }

module _ (text out₀ out : List ℕ) (i w o : ℕ) (r : Reading text out₀ out i w o) where
  ends_with : (p : Option (List (List ℕ))) → lines_from (drop i text) none r.line ≡ p → lines_from text none [] ≡ ahead r.done p
  ends_with p e = r.gives ∙ ap (ahead r.done) e

  count : (n : ℕ) → n ≡ o - w - 1 → n ≡ length r.line
  count n e = omega (arith, r.size)

  -- where nothing can follow
  refused_at : (hi : i < length text) → ends_line (get_or text i 0) (length r.line) ≡ false → pair_of (get_or text i 0 ∷ drop (i + 1) text) ≡ none → Decodes text out₀ out (Err NoLineForm)
  refused_at hi e p = refuses text out₀ out (ends_with none (rw (more text i hi) (not_ended (get_or text i 0) (drop (i + 1) text) r.line e p)))

  -- the line is written
  module _ (hi : i < length text) (e : ends_line (get_or text i 0) (length r.line) ≡ true) (w1 : w + 1 ≤ o) (room : o < length out₀) where
    wrote : Reading text out₀ (set out w (o - w - 1)) (i + 1) o (o + 1)
    unfolding packed
    wrote =
        let b = o - w - 1 in
        let l = reverse r.line in
        let el : length l ≡ b = length-reverse r.line ∙ (let q : length r.line ≡ b = omega (arith, r.size) in q) in
        let D = drop o out₀ in
        let p = packed r.done in
        let ed : D ≡ get_or out₀ o 0 ∷ drop (o + 1) out₀ = more out₀ o room in
        let e0 : set out w b ≡ p ++ (b ∷ (l ++ D)) = rw r.bytes (set_at p (get_or out₀ w 0) (l ++ D) b w r.place) in
        let e1 : packed (r.done ++ (l ∷ [])) ≡ p ++ (b ∷ (l ++ [])) = packed-append r.done (l ∷ []) ∙ ap (λ (x : ℕ). p ++ (x ∷ (l ++ []))) el in
        let e2 : (p ++ (b ∷ (l ++ []))) ++ D ≡ p ++ (b ∷ (l ++ D)) = append_assoc p (b ∷ (l ++ [])) D ∙ ap (λ (x : List ℕ). p ++ (b ∷ x)) (append_assoc l [] D) in
        record {
          done = r.done ++ (l ∷ []);
          line = [];
          gives =
              ends_with (ahead (l ∷ []) (lines_from (drop (i + 1) text) none [])) (rw (more text i hi) (ended (get_or text i 0) (drop (i + 1) text) r.line e))
              ∙ ahead_ahead r.done (l ∷ []) (lines_from (drop (i + 1) text) none []);
          place = ap length e1 ∙ length-append p (b ∷ (l ++ [])) ∙ sized p l r.place el;
          size = omega arith;
          bytes = e0 ∙ sym e2 ∙ ap (λ (x : List ℕ). x ++ D) (sym e1) ∙ ap (λ (x : List ℕ). packed (r.done ++ (l ∷ [])) ++ x) ed;
        }
      where
        sized : (p l : List ℕ) → length p ≡ w → length l ≡ o - w - 1 → length p + length ((o - w - 1) ∷ (l ++ [])) ≡ o
        sized p l ep el = let e = length-append l [] in omega arith

  module _ (last : ℕ) (el : last ≡ length text - 1) (hl : i < last) (x : ℕ) (ex : x ≡ pair_value (get_or text i 0) (get_or text (i + 1) 0)) where
    two_left : drop i text ≡ get_or text i 0 ∷ get_or text (i + 1) 0 ∷ drop (i + 1 + 1) text
    two_left = more text i (omega arith) ∙ ap (λ (y : List ℕ). get_or text i 0 ∷ y) (more text (i + 1) (omega arith))

    pub byte_more : x < 256 → w + 1 ≤ o → 4 * o ≤ 2 * i + w + 4 → 2 * length text + 10 ≤ 3 * length out₀ → Reading text out₀ (set out o x) (i + 2) w (o + 1)
    byte_more lx w1 pace room =
        let v : pair_value (get_or text i 0) (get_or text (i + 1) 0) < 256 = rw ex at lx in
        record {
          done = r.done;
          line = x ∷ r.line;
          gives = ends_with (lines_from (drop (i + 2) text) none (x ∷ r.line)) (at_byte v);
          place = r.place;
          size = let e = r.size in omega arith;
          bytes =
              rw (r.bytes, more out₀ o (omega arith), reverse-cons x r.line)
              (put (packed r.done) (reverse r.line) (drop (o + 1) out₀) (get_or out₀ w 0) (get_or out₀ o 0) x o
              (let e = length-reverse r.line in let s = r.size in let q = r.place in omega arith));
        }
      where
        at_byte : pair_value (get_or text i 0) (get_or text (i + 1) 0) < 256 → lines_from (drop i text) none r.line ≡ lines_from (drop (i + 2) text) none (x ∷ r.line)
        at_byte v =
            let n : i + 1 + 1 ≡ i + 2 = omega arith in
            rw (two_left, byte-lines (get_or text i 0) (get_or text (i + 1) 0 ∷ drop (i + 1 + 1) text) r.line (pair_goes_on (get_or text i 0) (get_or text (i + 1) 0) v), pair_is (get_or text i 0) (get_or text (i + 1) 0) (drop (i + 1 + 1) text) v, n, ex)

    module _ (hx : 256 ≤ x) (n : ℕ) (en : n ≡ o - w - 1) (b : Bool) (eb : b ≡ ends_line (get_or text i 0) n) where
      pub line_bad : not b ≡ true → Decodes text out₀ out (Err NoLineForm)
      line_bad z =
          refused_at (omega arith) (sym (rw (count n en) at eb) ∙ not-true b z)
          (rw (more text (i + 1) (omega arith)) (pair_none (get_or text i 0) (get_or text (i + 1) 0) (drop (i + 1 + 1) text) (rw ex at hx)))

  module _ (last : ℕ) (el : last ≡ length text - 1) (hl : i < last) (n : ℕ) (en : n ≡ o - w - 1) (b : Bool) (eb : b ≡ ends_line (get_or text i 0) n) where
    pub line_ends : not b ≡ false → w + 1 ≤ o → 4 * o ≤ 2 * i + w + 4 → 2 * length text + 10 ≤ 3 * length out₀ → Reading text out₀ (set out w n) (i + 1) o (o + 1)
    line_ends z w1 pace room = rw en (wrote (omega arith) (sym (rw (count n en) at eb) ∙ not-false b z) w1 (omega arith))

  -- ---- the end of the text
  module _ (last : ℕ) (el : last ≡ length text - 1) where
    pub text_open : last < i → i + w + 1 ≤ last + o → 1 ≤ length text → Decodes text out₀ out (Err NoLineForm)
    text_open h k one = refuses text out₀ out (ends_with none (rw (no_more text i (omega arith)) (open_line r.line (omega (arith, r.size)))))

    module _ (lo : last ≤ i) (hi : i ≤ last) (one : 1 ≤ length text) (n : ℕ) (en : n ≡ o - w - 1) (b : Bool) (eb : b ≡ ends_line (get_or text i 0) n) where
      pub last_bad : not b ≡ true → Decodes text out₀ out (Err NoLineForm)
      last_bad z = refused_at (omega arith) (sym (rw (count n en) at eb) ∙ not-true b z) (rw (no_more text (i + 1) (omega arith)))

      pub last_ends : not b ≡ false → w + 1 ≤ o → 4 * o ≤ 2 * i + w + 4 → 2 * length text + 10 ≤ 3 * length out₀ → length text ≤ 49567 → Decodes text out₀ (set out w n) (Ok o)
      last_ends z w1 pace room short =
          let h : o < length out₀ = omega arith in
          all_read text out₀ (set out w n) (i + 1) o (rw en (wrote (omega arith) (sym (rw (count n en) at eb) ∙ not-false b z) w1 h)) one short h (omega arith)

-- ---- bytes that are written ahead
pub puts_start : (text out : List ℕ) (from to : ℕ) → from < length text → Puts text out out from to from to
unfolding put_pairs
puts_start text out from to h = record {
  count = 0;
  at = omega arith;
  on = omega arith;
  inside = h;
  good = λ j l. absurd (omega arith);
  bytes = refl;
  size = refl;
}

module _ (text out₀ out : List ℕ) (from to i o : ℕ) (p : Puts text out₀ out from to i o) where
  puts_one : (x : ℕ) → x ≡ pair_value (get_or text i 0) (get_or text (i + 1) 0) → x < 256 → i + 2 < length text → Puts text out₀ (set out o x) from to (i + 2) (o + 1)
  unfolding put_pairs
  puts_one x ex lx h =
      let ei = p.at in
      let eo = p.on in
      record {
        count = suc p.count;
        at = omega arith;
        on = omega arith;
        inside = h;
        good = good;
        bytes = rw (p.bytes, eo, ex, ei);
        size = length-set out o x ∙ p.size;
      }
    where
      here : pair_value (get_or text (from + 2 * p.count) 0) (get_or text (from + 2 * p.count + 1) 0) < 256
      here = rw (← p.at, ← ex) lx

      good : (j : ℕ) → j < suc p.count → pair_value (get_or text (from + 2 * j) 0) (get_or text (from + 2 * j + 1) 0) < 256
      good j l = go (eqb j p.count) refl
        where
          go : (b : Bool) → eqb j p.count ≡ b → pair_value (get_or text (from + 2 * j) 0) (get_or text (from + 2 * j + 1) 0) < 256
          go true q = rw (eqb-true j p.count q) here
          go false q = let n = eqb-false j p.count q in p.good j (omega arith)

-- three bytes more
pub puts_three : (text out₀ out : List ℕ) (from to i o : ℕ) → Puts text out₀ out from to i o → (x y z : ℕ)
    → x ≡ pair_value (get_or text i 0) (get_or text (i + 1) 0) → y ≡ pair_value (get_or text (i + 2) 0) (get_or text (i + 3) 0) → z ≡ pair_value (get_or text (i + 4) 0) (get_or text (i + 5) 0)
    → x + y + z < 768 → i + 6 < length text → Puts text out₀ (set (set (set out o x) (o + 1) y) (o + 2) z) from to (i + 6) (o + 3)
puts_three text out₀ out from to i o p x y z ex ey ez h l =
    let i3 : i + 3 ≡ i + 2 + 1 = omega arith in
    let i4 : i + 4 ≡ i + 2 + 2 = omega arith in
    let i5 : i + 5 ≡ i + 2 + 2 + 1 = omega arith in
    let i6 : i + 6 ≡ i + 2 + 2 + 2 = omega arith in
    let o2 : o + 2 ≡ o + 1 + 1 = omega arith in
    let o3 : o + 3 ≡ o + 1 + 1 + 1 = omega arith in
    let all : (x < 256) × (y < 256) × (z < 256) = (
      first_byte (get_or text i 0) (get_or text (i + 1) 0) (get_or text (i + 2) 0) (get_or text (i + 3) 0) x y ex ey (get_or text (i + 4) 0) (get_or text (i + 5) 0) z ez h,
      second_byte (get_or text i 0) (get_or text (i + 1) 0) (get_or text (i + 2) 0) (get_or text (i + 3) 0) x y ex ey (get_or text (i + 4) 0) (get_or text (i + 5) 0) z ez h,
      third_byte (get_or text i 0) (get_or text (i + 1) 0) (get_or text (i + 2) 0) (get_or text (i + 3) 0) x y ex ey (get_or text (i + 4) 0) (get_or text (i + 5) 0) z ez h,
    ) in
    let a = puts_one text out₀ out from to i o p x ex all.0 (omega arith) in
    let b = puts_one text out₀ (set out o x) from to (i + 2) (o + 1) a y (rw i3 at ey) all.1 (omega arith) in
    rw (o2, i6, o3)
    (puts_one text out₀ (set (set out o x) (o + 1) y) from to (i + 2 + 2) (o + 1 + 1) b z (rw (i4, i5) at ez) all.2 (omega arith))

pairs_none : (text out₀ out : List ℕ) (i w o : ℕ) → Reading text out₀ out i w o → Reading text out₀ out (i + 2 * 0) w (o + 0)
pairs_none text out₀ out i w o r =
    let a : i + 2 * 0 ≡ i = omega arith in
    let b : o + 0 ≡ o = omega arith in
    rw (a, b) r

pairs_next : (text out₀ out : List ℕ) (i w o m x : ℕ) → Reading text out₀ out (i + 2 * m) w (o + m) → x ≡ pair_value (get_or text (i + 2 * m) 0) (get_or text (i + 2 * m + 1) 0)
    → x < 256 → i + 2 * suc m < length text → w + 1 ≤ o → 4 * o ≤ 2 * i + w + 4 → 2 * length text + 10 ≤ 3 * length out₀
    → Reading text out₀ (set out (o + m) x) (i + 2 * suc m) w (o + suc m)
pairs_next text out₀ out i w o m x r ex lx h w1 pace room =
    let a : i + 2 * suc m ≡ i + 2 * m + 2 = omega arith in
    let b : o + suc m ≡ o + m + 1 = omega arith in
    rw (a, b) (byte_more text out₀ out (i + 2 * m) w (o + m) r (length text - 1) refl (omega arith) x ex lx (omega arith) (omega arith) room)

pairs_put : (text out : List ℕ) (i o m : ℕ)
    → put_pairs text i out o (suc m) ≡ set (put_pairs text i out o m) (o + m) (pair_value (get_or text (i + 2 * m) 0) (get_or text (i + 2 * m + 1) 0))
unfolding put_pairs
pairs_put text out i o m = refl

pairs_put_none : (text out : List ℕ) (i o : ℕ) → put_pairs text i out o 0 ≡ out
unfolding put_pairs
pairs_put_none text out i o = refl

reading_pairs : (text out₀ out : List ℕ) (i w o m : ℕ) → Reading text out₀ out i w o → ((j : ℕ) → j < m → pair_value (get_or text (i + 2 * j) 0) (get_or text (i + 2 * j + 1) 0) < 256)
    → i + 2 * m < length text → w + 1 ≤ o → 4 * o ≤ 2 * i + w + 4 → 2 * length text + 10 ≤ 3 * length out₀
    → Reading text out₀ (put_pairs text i out o m) (i + 2 * m) w (o + m)
reading_pairs text out₀ out i w o zero r good h w1 pace room = rw (pairs_put_none text out i o) (pairs_none text out₀ out i w o r)
reading_pairs text out₀ out i w o (suc m) r good h w1 pace room =
    rw (pairs_put text out i o m)
    (pairs_next text out₀ (put_pairs text i out o m) i w o m (pair_value (get_or text (i + 2 * m) 0) (get_or text (i + 2 * m + 1) 0))
    (reading_pairs text out₀ out i w o m r (λ j l. good j (omega arith)) (omega arith) w1 pace room) refl (good m (omega arith)) h w1 pace room)

module _ (text out₀ out : List ℕ) (i w o : ℕ) (r : Reading text out₀ out i w o) (w1 : w + 1 ≤ o) (pace : 4 * o ≤ 2 * i + w + 4) (room : 2 * length text + 10 ≤ 3 * length out₀) where
  reading_on : (out' : List ℕ) (e k : ℕ) → Puts text out out' i o e k → Reading text out₀ out' e w k
  reading_on out' e k p =
      let h = p.inside in
      let a = p.at in
      rw (p.bytes, p.at, p.on) (reading_pairs text out₀ out i w o p.count r p.good (omega arith) w1 pace room)

module _ (text out₀ out : List ℕ) (i w o : ℕ) (r : Reading text out₀ out i w o) (last : ℕ) (el : last ≡ length text - 1) (hl : i < last) where
  pub ends_ahead : (n : ℕ) (b : Bool) (out' : List ℕ) (e k : ℕ) → n ≡ o - w - 1 → b ≡ ends_line (get_or text i 0) n → not b ≡ false → w + 1 ≤ o
      → 4 * o ≤ 2 * i + w + 4 → 2 * length text + 10 ≤ 3 * length out₀ → Puts text (set out w n) out' (i + 1) (o + 1) e k → Reading text out₀ out' e o k
  ends_ahead n b out' e k en eb z w1 pace room p =
      reading_on text out₀ (set out w n) (i + 1) o (o + 1) (line_ends text out₀ out i w o r last el hl n en b eb z w1 pace room) (omega arith)
      (line_pace i w o (get_or text i 0) n b eb z en pace) room out' e k p

module _ (text out₀ out : List ℕ) (w n : ℕ) (same : length out ≡ length out₀) where
  pub ahead_length : (out' : List ℕ) (a b e k : ℕ) → Puts text (set out w n) out' a b e k → length out' ≡ length out₀
  ahead_length out' a b e k p = p.size ∙ length-set out w n ∙ same

-- the pace is kept
pub ahead_pace : (text out out' : List ℕ) (i w o c n e k : ℕ) (b : Bool) → b ≡ ends_line c n → not b ≡ false → n ≡ o - w - 1 → 4 * o ≤ 2 * i + w + 4
    → Puts text out out' (i + 1) (o + 1) e k → 4 * k ≤ 2 * e + o + 4
ahead_pace text out out' i w o c n e k b eb z en pace p =
    let l = line_pace i w o c n b eb z en pace in
    let x = p.at in
    let y = p.on in
    omega arith
