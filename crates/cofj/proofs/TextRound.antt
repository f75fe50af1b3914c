-- The line form both ways: a text read into lines is what is written of them, and lines that are written are read back.
-- Not here: what the lines mean (FrameRound), tables (RoundTrip).
use Prim.Native.Nat.{ℕ, ◌+◌, ◌*◌, ◌-◌, ◌/◌, ◌%◌, ◌≤◌, ◌<◌}
use native.Mathlib.Omega.{arith}
use mathlib.Core.Path.{◌≡◌, refl, sym, ap, ap₂, ◌∙◌, subst}
use mathlib.Core.Bool.{Bool, true, false, ◌&&◌, cond}
use mathlib.Core.List.{List, [], ◌∷◌, ◌++◌, reverse, reverse_aux, reverse-reverse}
use mathlib.Core.Option.{Option, none, some, none-ne-some}
use lib.Dec.{eqb, leb}
use lib.ListN.{length, length-reverse}
use borrow.Author.Tests.{eqb-true, ne_eqb, leb-true, leb-false, le-leb, lt-leb}
use Rattle.cofj.specs.Limits.{line_size, text_size}
use Rattle.cofj.specs.Partial.{◌>>=◌, guard}
use Rattle.cofj.specs.Text.{within, digit, char, end_line, lines_from, lines, hex_line, hex_text}
use Rattle.cofj.proofs.Partial.{and_true, opt_bind, guard-bind}

-- ---- a digit and its character
pub within_true : (a b n : ℕ) → within a b n ≡ true → (a ≤ n) × (n ≤ b)
within_true a b n e = let p = and_true (leb a n) (leb n b) e in (leb-true a n p.0, leb-true n b p.1)

pub true_within : (a b n : ℕ) → a ≤ n → n ≤ b → within a b n ≡ true
true_within a b n p q = ap (λ (x : Bool). x && leb n b) (le-leb a n p) ∙ le-leb n b q

false_within : (a b n : ℕ) → b < n → within a b n ≡ false
false_within a b n p = go (leb a n) (leb n b) (lt-leb n b p)
  where
    go : (x y : Bool) → y ≡ false → x && y ≡ false
    go true y e = e
    go false y e = refl

-- what `char` gives
char_cases : (P : ℕ → Type 0) (d : ℕ) → (d ≤ 9 → P (d + 48)) → (9 < d → P (d + 55)) → P (char d)
char_cases P d low high = go (leb d 9) refl
  where
    go : (b : Bool) → leb d 9 ≡ b → P (cond b (d + 48) (d + 55))
    go true e = low (leb-true d 9 e)
    go false e = high (leb-false d 9 e)

char_low : (d : ℕ) → 48 ≤ char d
char_low d = char_cases (λ c. 48 ≤ c) d (λ _. omega arith) (λ _. omega arith)

char_inj : (d e : ℕ) → char d ≡ char e → d ≡ e
char_inj d e =
    char_cases (λ c. c ≡ char e → d ≡ e) d
    (λ p. char_cases (λ c. d + 48 ≡ c → d ≡ e) e (λ r q. omega arith) (λ r q. omega arith))
    (λ p. char_cases (λ c. d + 55 ≡ c → d ≡ e) e (λ r q. omega arith) (λ r q. omega arith))

digit_char : (c d : ℕ) → digit c ≡ some d → (char d ≡ c) × (d ≤ 15)
digit_char c d e = go (within 48 57 c) refl (within 65 70 c) refl e
  where
    char_is : (x : ℕ) → (x ≤ 9 → x + 48 ≡ c) → (9 < x → x + 55 ≡ c) → char x ≡ c
    char_is x p q = char_cases (λ y. y ≡ c) x p q

    go : (x : Bool) → within 48 57 c ≡ x → (y : Bool) → within 65 70 c ≡ y
        → ◌≡◌ {A = Option ℕ} (elim x [ true ↦ some (c - 48) | false ↦ elim y [ true ↦ some (c - 55) | false ↦ none ] ]) (some d) → (char d ≡ c) × (d ≤ 15)
    go true p y q z =
        let w : c - 48 ≡ d = cc in
        let r = within_true 48 57 c p in
        let a = r.0 in
        let b = r.1 in
        (char_is d (λ l. omega arith) (λ l. absurd (omega arith)), omega arith)
    go false p true q z =
        let w : c - 55 ≡ d = cc in
        let r = within_true 65 70 c q in
        let a = r.0 in
        let b = r.1 in
        (char_is d (λ l. absurd (omega arith)) (λ l. omega arith), omega arith)
    go false p false q z = absurd (none-ne-some d z)

char-digit : (d : ℕ) → d ≤ 15 → digit (char d) ≡ some d
char-digit d h = char_cases (λ c. digit c ≡ some d) d low high
  where
    low : d ≤ 9 → digit (d + 48) ≡ some d
    low p =
        rw (true_within 48 57 (d + 48) (omega arith) (omega arith), digit) (ap {B = Option ℕ} some (let w : d + 48 - 48 ≡ d = omega arith in w))

    high : 9 < d → digit (d + 55) ≡ some d
    high p =
        rw (false_within 48 57 (d + 55) (omega arith), true_within 65 70 (d + 55) (omega arith) (omega arith), digit)
        (ap {B = Option ℕ} some (let w : d + 55 - 55 ≡ d = omega arith in w))

-- ---- from a text to its lines, and back to the text
-- what the reader has passed: the bytes of a line so far, the last first, and a first digit that waits
abbrev wait : Option ℕ → List ℕ → List ℕ
wait none s = s
wait (some h) s = char h ∷ s

abbrev back : List ℕ → List ℕ → List ℕ
back [] s = s
back (b ∷ bs) s = back bs (char (b / 16) ∷ char (b % 16) ∷ s)

line_back : (bs r s : List ℕ) → hex_line (reverse_aux bs r) ++ s ≡ back bs (hex_line r ++ s)
line_back [] r s = refl
line_back (b ∷ bs) r s = line_back bs (b ∷ r) s

lines_back : (s : List ℕ) (p : Option ℕ) (bs : List ℕ) (ls : List (List ℕ)) → lines_from s p bs ≡ some ls → hex_text ls ≡ back bs (wait p s)
unfolding lines_from
lines_back [] none [] ls e = let y : some [] ≡ some ls = e in ap hex_text (let w : ls ≡ [] = cc in w)
lines_back [] none (b ∷ bs) ls e = absurd (none-ne-some ls e)
lines_back [] (some h) bs ls e = absurd (none-ne-some ls e)
lines_back (c ∷ cs) none bs ls e = go (eqb c 10) refl e (λ ms. lines_back cs none [] ms) (λ d. lines_back cs (some d) bs ls)
  where
    go : (x : Bool) → eqb c 10 ≡ x
        → ◌≡◌ {A = Option (List (List ℕ))} (elim x [ true ↦ end_line none bs (lines_from cs none []) | false ↦ digit c >>= λ d. lines_from cs (some d) bs ]) (some ls)
        → ((ms : List (List ℕ)) → lines_from cs none [] ≡ some ms → hex_text ms ≡ cs)
        → ((d : ℕ) → lines_from cs (some d) bs ≡ some ls → hex_text ls ≡ back bs (char d ∷ cs)) → hex_text ls ≡ back bs (c ∷ cs)
    go true q z ended onward =
        let a = guard-bind (within 1 line_size (length bs)) (λ _. lines_from cs none [] >>= λ ms. some (reverse bs ∷ ms)) ls z in
        let b = opt_bind (lines_from cs none []) (λ ms. some (reverse bs ∷ ms)) ls a.1 in
        let w : ls ≡ reverse bs ∷ b.0 = cc b.2 in
        ap hex_text w ∙ ap (λ (x : List ℕ). hex_line (reverse bs) ++ x) (ended b.0 b.1) ∙ line_back bs [] cs
        ∙ ap (λ (x : ℕ). back bs (x ∷ cs)) (sym (eqb-true c 10 q))
    go false q z ended onward =
        let a = opt_bind (digit c) (λ d. lines_from cs (some d) bs) ls z in
        onward a.0 a.2 ∙ ap (λ (x : ℕ). back bs (x ∷ cs)) (digit_char c a.0 a.1).0
lines_back (c ∷ cs) (some h) bs ls e = go (eqb c 10) e (λ d. lines_back cs none ((16 * h + d) ∷ bs) ls)
  where
    go : (x : Bool) → ◌≡◌ {A = Option (List (List ℕ))} (elim x [ true ↦ none | false ↦ digit c >>= λ d. lines_from cs none ((16 * h + d) ∷ bs) ]) (some ls)
        → ((d : ℕ) → lines_from cs none ((16 * h + d) ∷ bs) ≡ some ls → hex_text ls ≡ back bs (char ((16 * h + d) / 16) ∷ char ((16 * h + d) % 16) ∷ cs))
        → hex_text ls ≡ back bs (char h ∷ c ∷ cs)
    go true z onward = absurd (none-ne-some ls z)
    go false z onward =
        let a = opt_bind (digit c) (λ d. lines_from cs none ((16 * h + d) ∷ bs)) ls z in
        let k = digit_char c a.0 a.1 in
        let l = k.1 in
        let u : (16 * h + a.0) / 16 ≡ h = omega arith in
        let v : (16 * h + a.0) % 16 ≡ a.0 = omega arith in
        onward a.0 a.2 ∙ ap₂ (λ (x y : ℕ). back bs (char x ∷ y ∷ cs)) u (ap char v ∙ k.0)

pub hex_lines : (s : List ℕ) (ls : List (List ℕ)) → lines_from s none [] ≡ some ls → hex_text ls ≡ s
hex_lines s ls e = lines_back s none [] ls e

-- ---- from lines to their text, and back to the lines: different lines have different texts, whatever their numbers
line_inj : (l m x y : List ℕ) → hex_line l ++ x ≡ hex_line m ++ y → (l ≡ m) × (x ≡ y)
line_inj [] [] x y e = (refl, let w : x ≡ y = cc in w)
line_inj [] (b ∷ m) x y e = let w : 10 ≡ char (b / 16) = cc in absurd (omega (arith, char_low (b / 16), w))
line_inj (a ∷ l) [] x y e = let w : char (a / 16) ≡ 10 = cc in absurd (omega (arith, char_low (a / 16), w))
line_inj (a ∷ l) (b ∷ m) x y e =
    let p : char (a / 16) ≡ char (b / 16) = cc in
    let q : char (a % 16) ≡ char (b % 16) = cc in
    let r = line_inj l m x y (let w : hex_line l ++ x ≡ hex_line m ++ y = cc in w) in
    let u = char_inj (a / 16) (b / 16) p in
    let v = char_inj (a % 16) (b % 16) q in
    (ap₂ {C = List ℕ} ◌∷◌ (let w : a ≡ b = omega arith in w) r.0, r.1)

not_empty : (l x : List ℕ) → [] ≡ hex_line l ++ x → ⊥
not_empty [] x e = let z : ◌≡◌ {A = ℕ} 0 1 = cc in omega arith
not_empty (b ∷ l) x e = let z : ◌≡◌ {A = ℕ} 0 1 = cc in omega arith

pub text_inj : (ls ms : List (List ℕ)) → hex_text ls ≡ hex_text ms → ls ≡ ms
text_inj [] [] e = refl
text_inj [] (m ∷ ms) e = absurd (not_empty m (hex_text ms) e)
text_inj (l ∷ ls) [] e = absurd (not_empty l (hex_text ls) (sym e))
text_inj (l ∷ ls) (m ∷ ms) e =
    let p = line_inj l m (hex_text ls) (hex_text ms) e in
    ap₂ {C = List (List ℕ)} ◌∷◌ p.0 (text_inj ls ms p.1)

-- a number of 256 or more is written by characters that are no digits, so such lines are not read
pub lines_hex : (ls ms : List (List ℕ)) → lines_from (hex_text ls) none [] ≡ some ms → ms ≡ ls
lines_hex ls ms e = text_inj ms ls (hex_lines (hex_text ls) ms e)

-- ---- lines of 1 to `line_size` bytes are read back
abbrev pub Bytes : List ℕ → Type 0
Bytes [] = Unit {0}
Bytes (b ∷ bs) = (b < 256) × Bytes bs

abbrev pub Lines : List (List ℕ) → Type 0
Lines [] = Unit {0}
Lines (l ∷ ls) = (1 ≤ length l) × (length l ≤ line_size) × Bytes l × Lines ls

module _ (d : ℕ) (h : d ≤ 15) (cs bs : List ℕ) where
  no_end : eqb (char d) 10 ≡ false
  no_end = ne_eqb (char d) 10 λ e. omega (arith, char_low d, e)

  first_digit : lines_from (char d ∷ cs) none bs ≡ lines_from cs (some d) bs
  unfolding lines_from
  first_digit = rw (no_end, char-digit d h, lines_from) refl

  second_digit : (k : ℕ) → lines_from (char d ∷ cs) (some k) bs ≡ lines_from cs none ((16 * k + d) ∷ bs)
  unfolding lines_from
  second_digit k = rw (no_end, char-digit d h, lines_from) refl

line_read : (l : List ℕ) → Bytes l → (bs x : List ℕ) → lines_from (hex_line l ++ x) none bs ≡ end_line none (reverse_aux l bs) (lines_from x none [])
line_read [] h bs x = unfold lines_from in refl
line_read (b ∷ l) h bs x =
    let k = h.0 in
    let byte : 16 * (b / 16) + b % 16 ≡ b = omega arith in
    first_digit (b / 16) (omega arith) (char (b % 16) ∷ (hex_line l ++ x)) bs
    ∙ second_digit (b % 16) (omega arith) (hex_line l ++ x) bs (b / 16)
    ∙ ap (λ (c : ℕ). lines_from (hex_line l ++ x) none (c ∷ bs)) byte
    ∙ line_read l h.1 (b ∷ bs) x

pub lines-written : (ls : List (List ℕ)) → Lines ls → lines_from (hex_text ls) none [] ≡ some ls
lines-written [] h = unfold lines_from in refl
lines-written (l ∷ ls) h =
    line_read l h.2 [] (hex_text ls)
    ∙ ap (λ (o : Option (List (List ℕ))). end_line none (reverse l) o) (lines-written ls h.3)
    ∙ ap (λ (n : ℕ). guard (within 1 line_size n) >>= λ _. some (reverse (reverse l) ∷ ls)) (length-reverse l)
    ∙ ap (λ (b : Bool). guard b >>= λ _. some (reverse (reverse l) ∷ ls)) (true_within 1 line_size (length l) h.0 h.1)
    ∙ ap (λ (m : List ℕ). some (m ∷ ls)) (reverse-reverse l)

-- ---- what is read of a text is lines of bytes
digit_small : (c d : ℕ) → digit c ≡ some d → d ≤ 15
digit_small c d e = go (within 48 57 c) refl (within 65 70 c) refl e
  where
    go : (x : Bool) → within 48 57 c ≡ x → (y : Bool) → within 65 70 c ≡ y
        → ◌≡◌ {A = Option ℕ} (elim x [ true ↦ some (c - 48) | false ↦ elim y [ true ↦ some (c - 55) | false ↦ none ] ]) (some d) → d ≤ 15
    go true p y q z =
        let w : c - 48 ≡ d = cc in
        let r = (within_true 48 57 c p).1 in
        omega arith
    go false p true q z =
        let w : c - 55 ≡ d = cc in
        let r = (within_true 65 70 c q).1 in
        omega arith
    go false p false q z = absurd (none-ne-some d z)

bytes-reverse : (bs r : List ℕ) → Bytes bs → Bytes r → Bytes (reverse_aux bs r)
bytes-reverse [] r h k = k
bytes-reverse (b ∷ bs) r h k = bytes-reverse bs (b ∷ r) h.1 (h.0, k)

abbrev Waiting : Option ℕ → Type 0
Waiting none = Unit {0}
Waiting (some h) = h ≤ 15

lines_from_lem : (s : List ℕ) (p : Option ℕ) (bs : List ℕ) (ls : List (List ℕ)) → lines_from s p bs ≡ some ls → Waiting p → Bytes bs → Lines ls
unfolding lines_from
lines_from_lem [] none [] ls e w h = let y : some [] ≡ some ls = e in subst Lines (let q : [] ≡ ls = cc in q) tt
lines_from_lem [] none (b ∷ bs) ls e w h = absurd (none-ne-some ls e)
lines_from_lem [] (some d) bs ls e w h = absurd (none-ne-some ls e)
lines_from_lem (c ∷ cs) none bs ls e w h = go (eqb c 10) e (λ ms z. lines_from_lem cs none [] ms z tt tt) (λ d z l. lines_from_lem cs (some d) bs ls z l h)
  where
    go : (x : Bool)
        → ◌≡◌ {A = Option (List (List ℕ))} (elim x [ true ↦ end_line none bs (lines_from cs none []) | false ↦ digit c >>= λ d. lines_from cs (some d) bs ]) (some ls)
        → ((ms : List (List ℕ)) → lines_from cs none [] ≡ some ms → Lines ms)
        → ((d : ℕ) → lines_from cs (some d) bs ≡ some ls → d ≤ 15 → Lines ls) → Lines ls
    go true z ended onward =
        let a = guard-bind (within 1 line_size (length bs)) (λ _. lines_from cs none [] >>= λ ms. some (reverse bs ∷ ms)) ls z in
        let b = opt_bind (lines_from cs none []) (λ ms. some (reverse bs ∷ ms)) ls a.1 in
        let l = within_true 1 line_size (length bs) a.0 in
        let q : length (reverse bs) ≡ length bs = length-reverse bs in
        subst Lines (let y : reverse bs ∷ b.0 ≡ ls = cc b.2 in y)
        (subst (λ (k : ℕ). 1 ≤ k) (sym q) l.0, subst (λ (k : ℕ). k ≤ line_size) (sym q) l.1, bytes-reverse bs [] h tt, ended b.0 b.1)
    go false z ended onward =
        let a = opt_bind (digit c) (λ d. lines_from cs (some d) bs) ls z in
        onward a.0 a.2 (digit_small c a.0 a.1)
lines_from_lem (c ∷ cs) (some k) bs ls e w h = go (eqb c 10) e (λ d z l. lines_from_lem cs none ((16 * k + d) ∷ bs) ls z tt (let q : 16 * k + d < 256 = omega arith in q, h))
  where
    go : (x : Bool) → ◌≡◌ {A = Option (List (List ℕ))} (elim x [ true ↦ none | false ↦ digit c >>= λ d. lines_from cs none ((16 * k + d) ∷ bs) ]) (some ls)
        → ((d : ℕ) → lines_from cs none ((16 * k + d) ∷ bs) ≡ some ls → d ≤ 15 → Lines ls) → Lines ls
    go true z onward = absurd (none-ne-some ls z)
    go false z onward =
        let a = opt_bind (digit c) (λ d. lines_from cs none ((16 * k + d) ∷ bs)) ls z in
        onward a.0 a.2 (digit_small c a.0 a.1)

pub read_bytes : (s : List ℕ) (ls : List (List ℕ)) → lines_from s none [] ≡ some ls → Lines ls
read_bytes s ls e = lines_from_lem s none [] ls e tt tt

pub lines-bytes : (s : List ℕ) (ls : List (List ℕ)) → lines s ≡ some ls → Lines ls
unfolding lines
lines-bytes s ls e = read_bytes s ls (guard-bind (within 1 text_size (length s)) (λ _. lines_from s none []) ls e).1
