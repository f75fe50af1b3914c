-- Laws of what is written: for the goals of `write`, and for callers that write line after line.
-- For callers: of `put_line` `line-*`, `take_line`, `drop_line`; of `put_text` `text-*`. Premises are the facts as a caller's record has them.
-- Not here: what a table's lines are.
use Rattle.std.proofs.Common.{ℕ, suc, ◌+◌, ◌*◌, ◌/◌, ◌%◌, ◌<◌, ◌≤◌, arith, add-one, ◌≡◌, refl, sym, ap, ap₂, ◌∙◌, List, [], ◌∷◌, ◌++◌, append_assoc, append-nil, length, get_or, set, take, drop, length-append, take-suc, length-take-le, take_at, drop_at, le-leb}
use Rattle.std.proofs.Math.Seq.{sets, length-sets, sets-eq}
use borrow.Author.Tests.{lt-leb}
use Rattle.cofj.specs.Text.{char, hex_line, hex_text}
use Rattle.cofj.proofs.Reports.{length_line}
use Rattle.lineform.specs.Writes.{Wrote, wrote, put, hex_bytes, put_line, put_text}

-- ---- a digit
pub char_low : (d : ℕ) → d < 10 → d + 48 ≡ char d
char_low d h = rw (le-leb d 9 (omega arith))

pub char_high : (d : ℕ) → 10 ≤ d → d + 55 ≡ char d
char_high d h = rw (lt-leb d 9 (omega arith))

-- ---- characters after characters
sets_append : (xs ys l : List ℕ) (i : ℕ) → sets (sets l i xs) (i + length xs) ys ≡ sets l i (xs ++ ys)
sets_append [] ys l i = ap (λ (k : ℕ). sets l k ys) (let e : i + 0 ≡ i = omega arith in e)
sets_append (x ∷ xs) ys l i =
    ap (λ (k : ℕ). sets (sets (set l i x) (suc i) xs) k ys) (let e : i + suc (length xs) ≡ suc i + length xs = omega arith in e)
    ∙ sets_append xs ys (set l i x) (suc i)

module _ (out o : List ℕ) (at a : ℕ) (cs : List ℕ) (e : wrote a o ≡ put out at cs) where
  pub put_end : a ≡ at + length cs
  unfolding put
  put_end = cc

  pub put_stores : o ≡ sets out at cs
  unfolding put
  put_stores = cc

  pub put_size : length o ≡ length out
  put_size = rw put_stores (length-sets out at cs)

  -- within the buffer: what stands before, the characters, what stands after
  module _ (h : a ≤ length out) where
    pub put_whole : o ≡ take at out ++ cs ++ drop a out
    put_whole = rw (put_stores, put_end) (sets-eq cs out at (omega (arith, put_end)))

    head_length : length (take at out ++ cs) ≡ a
    head_length = length-append (take at out) cs ∙ ap (λ (k : ℕ). k + length cs) (length-take-le at out (omega (arith, put_end))) ∙ sym put_end

    pub put_front : take a o ≡ take at out ++ cs
    put_front = rw put_whole (take_at (take at out ++ cs) (drop a out) a head_length)

    pub put_rest : drop a o ≡ drop a out
    put_rest = rw put_whole (drop_at (take at out ++ cs) (drop a out) a head_length)

  pub put-put : (o2 : List ℕ) (a2 : ℕ) (ds : List ℕ) → wrote a2 o2 ≡ put o a ds → wrote a2 o2 ≡ put out at (cs ++ ds)
  unfolding put
  put-put o2 a2 ds e2 =
      e2 ∙ rw (put_end, put_stores)
      (ap₂ {C = Wrote} wrote (rw length-append (omega arith)) (sets_append cs ds out at))

-- ---- bytes
pub bytes-length : (l : List ℕ) → length (hex_bytes l) ≡ 2 * length l
unfolding hex_bytes
bytes-length [] = refl
bytes-length (b ∷ l) = let h = bytes-length l in omega arith

bytes-append : (a b : List ℕ) → hex_bytes (a ++ b) ≡ hex_bytes a ++ hex_bytes b
unfolding hex_bytes
bytes-append [] b = refl
bytes-append (x ∷ a) b = rw (bytes-append a b)

pub byte_put : (out : List ℕ) (at b h l : ℕ) → h ≡ char (b / 16) → l ≡ char (b % 16) → wrote (at + 2) (set (set out at h) (at + 1) l) ≡ put out at (hex_bytes (b ∷ []))
unfolding put hex_bytes
byte_put out at b h l eh el = rw (← eh, ← el, add-one at)

pub byte_end : (o o2 : List ℕ) (at i w w2 b : ℕ) → w ≡ at + 2 * i → wrote w2 o2 ≡ put o w (hex_bytes (b ∷ [])) → w2 ≡ at + 2 * (i + 1)
byte_end o o2 at i w w2 b h e = omega (arith, put_end o o2 w w2 (hex_bytes (b ∷ [])) e, bytes-length (b ∷ []))

pub bytes_none : (out : List ℕ) (at : ℕ) → wrote at out ≡ put out at (hex_bytes [])
unfolding put hex_bytes
bytes_none out at = ap (λ (k : ℕ). wrote k out) (let e : at ≡ at + 0 = omega arith in e)

module _ (s out : List ℕ) (at : ℕ) where
  pub bytes_more : (o o2 : List ℕ) (i w w2 : ℕ) → i < length s → wrote w o ≡ put out at (hex_bytes (take i s)) → wrote w2 o2 ≡ put o w (hex_bytes (get_or s i 0 ∷ []))
      → wrote w2 o2 ≡ put out at (hex_bytes (take (i + 1) s))
  bytes_more o o2 i w w2 h e e2 = rw (add-one i, take-suc s i 0 h, bytes-append (take i s) (get_or s i 0 ∷ [])) (put-put out o at w (hex_bytes (take i s)) e o2 w2 _ e2)

-- ---- a line
line_bytes : (l : List ℕ) → hex_line l ≡ hex_bytes l ++ (10 ∷ [])
unfolding hex_bytes
line_bytes [] = refl
line_bytes (b ∷ l) = rw (line_bytes l)

pub line_length_lem : (l : List ℕ) → length (hex_line l) ≡ 2 * length l + 1
line_length_lem l = let h = length_line l in omega arith

module _ (out o1 rest : List ℕ) (at a first : ℕ) (e1 : wrote a o1 ≡ put out at (hex_bytes (first ∷ []))) where
  first_end : a ≡ at + 2
  first_end = omega (arith, put_end out o1 at a (hex_bytes (first ∷ [])) e1, bytes-length (first ∷ []))

  pub rest_room : at + 2 * length rest + 3 ≤ length out → a + 2 * length rest ≤ length o1
  rest_room h = omega (arith, first_end, put_size out o1 at a (hex_bytes (first ∷ [])) e1)

  module _ (o2 : List ℕ) (b : ℕ) (e2 : wrote b o2 ≡ put o1 a (hex_bytes rest)) where
    pub end_room : at + 2 * length rest + 3 ≤ length out → b < length o2
    end_room h =
        omega (arith, first_end, put_size out o1 at a (hex_bytes (first ∷ [])) e1, put_end o1 o2 a b (hex_bytes rest) e2, put_size o1 o2 a b (hex_bytes rest) e2, bytes-length rest)

    pub line_put : wrote (b + 1) (set o2 b 10) ≡ put_line out at (first ∷ rest)
    unfolding put_line put
    line_put =
        let e3 : wrote (b + 1) (set o2 b 10) ≡ put o2 b (10 ∷ []) = refl in
        let e4 : wrote b o2 ≡ put out at (hex_bytes (first ∷ []) ++ hex_bytes rest) = put-put out o1 at a (hex_bytes (first ∷ [])) e1 o2 b (hex_bytes rest) e2 in
        put-put out o2 at b (hex_bytes (first ∷ []) ++ hex_bytes rest) e4 (set o2 b 10) (b + 1) (10 ∷ []) e3
        ∙ ap (put out at) (ap (λ (x : List ℕ). x ++ (10 ∷ [])) (sym (bytes-append (first ∷ []) rest)) ∙ sym (line_bytes (first ∷ rest)))

-- ---- the text of lines
pub text_append : (a b : List (List ℕ)) → hex_text (a ++ b) ≡ hex_text a ++ hex_text b
text_append [] b = refl
text_append (l ∷ a) b = ap (λ (x : List ℕ). hex_line l ++ x) (text_append a b) ∙ sym (append_assoc (hex_line l) (hex_text a) (hex_text b))

pub text_more : (ls : List (List ℕ)) (l : List ℕ) → hex_text (ls ++ (l ∷ [])) ≡ hex_text ls ++ hex_line l
text_more ls l = text_append ls (l ∷ []) ∙ ap (λ (x : List ℕ). hex_text ls ++ x) (append-nil (hex_line l))

pub text_more_length : (ls : List (List ℕ)) (l : List ℕ) → length (hex_text (ls ++ (l ∷ []))) ≡ length (hex_text ls) + 2 * length l + 1
text_more_length ls l = rw (text_more ls l, length-append (hex_text ls) (hex_line l), line_length_lem l) (omega arith)

-- ---- for callers: one line
module _ (out o : List ℕ) (at r : ℕ) (l : List ℕ) (e : wrote r o ≡ put_line out at l) where
  line_is : wrote r o ≡ put out at (hex_line l)
  unfolding put_line
  line_is = e

  pub line_end : r ≡ at + 2 * length l + 1
  line_end = omega (arith, put_end out o at r (hex_line l) line_is, line_length_lem l)

  pub line_stores : o ≡ sets out at (hex_line l)
  line_stores = put_stores out o at r (hex_line l) line_is

  -- the text in front grows by the line, and what lies after stays
  pub take_line : (ls : List (List ℕ)) → take at out ≡ hex_text ls → r ≤ length out → take r o ≡ hex_text (ls ++ (l ∷ []))
  take_line ls t h = put_front out o at r (hex_line l) line_is h ∙ ap (λ (x : List ℕ). x ++ hex_line l) t ∙ sym (text_more ls l)

  pub drop_line : r ≤ length out → drop r o ≡ drop r out
  drop_line h = put_rest out o at r (hex_line l) line_is h

-- ---- for callers: line after line
pub text_none : (out : List ℕ) (at : ℕ) → wrote at out ≡ put_text out at []
unfolding put_text put
text_none out at = ap (λ (k : ℕ). wrote k out) (let e : at ≡ at + 0 = omega arith in e)

module _ (out o : List ℕ) (at a : ℕ) (ls : List (List ℕ)) (e : wrote a o ≡ put_text out at ls) where
  text_is : wrote a o ≡ put out at (hex_text ls)
  unfolding put_text
  text_is = e

  pub text_end : a ≡ at + length (hex_text ls)
  text_end = put_end out o at a (hex_text ls) text_is

  pub text_size_lem : length o ≡ length out
  text_size_lem = put_size out o at a (hex_text ls) text_is

  pub text_text : (o2 : List ℕ) (a2 : ℕ) (ms : List (List ℕ)) → wrote a2 o2 ≡ put_text o a ms → wrote a2 o2 ≡ put_text out at (ls ++ ms)
  unfolding put_text
  text_text o2 a2 ms e2 = put-put out o at a (hex_text ls) text_is o2 a2 (hex_text ms) e2 ∙ ap (put out at) (sym (text_append ls ms))

  pub text_line : (o2 : List ℕ) (a2 : ℕ) (l : List ℕ) → wrote a2 o2 ≡ put_line o a l → wrote a2 o2 ≡ put_text out at (ls ++ (l ∷ []))
  unfolding put_text put_line
  text_line o2 a2 l e2 = text_text o2 a2 (l ∷ []) (e2 ∙ ap (put o a) (sym (append-nil (hex_line l))))

  -- within the buffer. At 0 `take 0 out ++ hex_text ls` computes to `hex_text ls`.
  module _ (h : a ≤ length out) where
    pub text_whole : o ≡ take at out ++ hex_text ls ++ drop a out
    text_whole = put_whole out o at a (hex_text ls) text_is h

    pub text_front : take a o ≡ take at out ++ hex_text ls
    text_front = put_front out o at a (hex_text ls) text_is h
