-- Bytes written as characters to a place of a lent buffer. Not here: what the bytes of a report are (Reports).
use Rattle.std.proofs.Common.{ℕ, suc, ◌+◌, ◌-◌, ◌/◌, ◌%◌, ◌<◌, ◌≤◌, arith, add-one, ◌≡◌, refl, sym, ap, ◌∙◌, List, [], ◌∷◌, ◌++◌, append_assoc, append-nil, length, set, take, drop, length-set, length-append, take-append-drop, take-suc-set, drop-set-lt, drop-drop}
use Rattle.std.proofs.lemmas.List.Edits.{sets}
use Rattle.lineform.specs.Writes.{wrote, put, hex_bytes}
use Rattle.cofj.specs.Text.{char, hex_line}
use Rattle.values.specs.Reporting.{Front, Written}

-- ---- the front of a buffer
pub front_none : (d : List ℕ) → Front d d 0 []
front_none d = record { same = refl; front = refl; rest = refl }

front_start : (d : List ℕ) (j : ℕ) → Front d d j (take j d)
front_start d j = record { same = refl; front = refl; rest = refl }

-- what stands after j, from what stands after an earlier place
rest_later : (d e : List ℕ) (i j : ℕ) → i ≤ j → drop i d ≡ drop i e → drop j d ≡ drop j e
rest_later d e i j h q =
    let z : i + (j - i) ≡ j = omega arith in
    rw (← z) (sym (drop-drop (j - i) i d) ∙ ap (drop (j - i)) q ∙ drop-drop (j - i) i e)

pub front-put : (d₀ d : List ℕ) (j : ℕ) (p : List ℕ) (a : ℕ) → Front d₀ d j p → j < length d → Front d₀ (set d j a) (j + 1) (p ++ (a ∷ []))
front-put d₀ d j p a f h = record {
  same = length-set d j a ∙ f.same;
  front = rw (add-one j, take-suc-set d j a h, f.front);
  rest = rw (add-one j) (drop-set-lt (suc j) d j a (omega arith) ∙ rest_later d d₀ j (suc j) (omega arith) f.rest);
}

pub front_then : (d₀ d e : List ℕ) (i j : ℕ) (p q : List ℕ) → Front d₀ d i p → Front d e j (take i d ++ q) → i ≤ j → Front d₀ e j (p ++ q)
front_then d₀ d e i j p q f g h = record {
  same = g.same ∙ f.same;
  front = g.front ∙ ap (λ (l : List ℕ). l ++ q) f.front;
  rest = g.rest ∙ rest_later d d₀ i j h f.rest;
}

pub front-whole : (d₀ d : List ℕ) (j : ℕ) (p : List ℕ) → Front d₀ d j p → d ≡ p ++ drop j d₀
front-whole d₀ d j p f = rw (← f.front, ← f.rest, take-append-drop)

-- ---- the characters of bytes
digits_append : (l m : List ℕ) → hex_bytes (l ++ m) ≡ hex_bytes l ++ hex_bytes m
unfolding hex_bytes
digits_append [] m = refl
digits_append (x ∷ l) m = ap (λ (t : List ℕ). char (x / 16) ∷ char (x % 16) ∷ t) (digits_append l m)

pub digits_line : (l : List ℕ) → hex_line l ≡ hex_bytes l ++ (10 ∷ [])
unfolding hex_bytes
digits_line [] = refl
digits_line (x ∷ l) = ap (λ (t : List ℕ). char (x / 16) ∷ char (x % 16) ∷ t) (digits_line l)

-- ---- bytes written as characters
pub written_none : (d : List ℕ) (to : ℕ) → Written [] d to d to
unfolding hex_bytes
written_none d to = record { end = omega arith; text = rw (append-nil (take to d)) (front_start d to) }

-- a byte, as the line form puts it
two_put : (d : List ℕ) (at x y : ℕ) → at + 2 ≤ length d → Front d (sets d at (x ∷ y ∷ [])) (at + 2) (take at d ++ (x ∷ y ∷ []))
two_put d at x y h =
    let f : Front d (set d at x) (at + 1) (take at d ++ (x ∷ [])) = front-put d d at (take at d) x (front_start d at) (omega arith) in
    let g : Front d (set (set d at x) (at + 1) y) (at + 1 + 1) ((take at d ++ (x ∷ [])) ++ (y ∷ [])) = front-put d (set d at x) (at + 1) (take at d ++ (x ∷ [])) y f (omega (arith, length-set d at x)) in
    let e : at + 1 + 1 ≡ at + 2 = omega arith in
    let s : at + 1 ≡ suc at = omega arith in
    rw (e, append_assoc, s) at g

pub byte_end : (d e : List ℕ) (to b t : ℕ) → wrote t e ≡ put d to (hex_bytes (b ∷ [])) → t ≡ to + 2
unfolding put hex_bytes
byte_end d e to b t q = cc

pub byte_written : (d e : List ℕ) (to b t : ℕ) → to + 2 ≤ length d → wrote t e ≡ put d to (hex_bytes (b ∷ [])) → Written (b ∷ []) d to e t
unfolding put hex_bytes
byte_written d e to b t h q =
    let et = byte_end d e to b t q in
    let ee : e ≡ sets d to (char (b / 16) ∷ char (b % 16) ∷ []) = cc in
    rw (et, ee) (record { end = omega arith; text = two_put d to (char (b / 16)) (char (b % 16)) h })

pub written_then : (l m d₀ d e : List ℕ) (to t u : ℕ) → Written l d₀ to d t → Written m d t e u → Written (l ++ m) d₀ to e u
written_then l m d₀ d e to t u f g = record {
  end = omega (arith, f.end, g.end, length-append l m);
  text = rw (digits_append l m, ← append_assoc (take to d₀) (hex_bytes l) (hex_bytes m)) (front_then d₀ d e t u (take to d₀ ++ hex_bytes l) (hex_bytes m) f.text g.text (omega (arith, g.end)));
}
