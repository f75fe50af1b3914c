-- The goals of `write`: a law for each return and loop step. Not here: what the answer says of texts (Written).
use Rattle.std.proofs.Common.{ℕ, zero, suc, ◌+◌, ◌*◌, ◌-◌, ◌≤◌, ◌<◌, arith, add-one, ◌≡◌, refl, sym, ap, ◌∙◌, Bool, true, false, not, List, [], ◌∷◌, ◌++◌, ltb, length, get_or, take, drop, length-take, length-drop, length-append, length-take-le, lt-ltb, le-ltb, eq-eqb, ne_eqb, min, Ok, Err}
use borrow.Author.Tests.{not-true, not-false}
use Rattle.std.proofs.Math.Nat.{min-eq_left, min-le_right}
use Rattle.std.specs.Str.{bytes_eq}
use Rattle.std.specs.declared.result.Result.{Result}
use Rattle.cofj.specs.declared.Refusal.{Refusal}
use Rattle.cofj.specs.declared.Refusal.TheVariants.{UnreadableTable, ShortText}
use Rattle.cofj.specs.Refusals.{refusal_number, answer_number}
use Rattle.tables.proofs.ReadLaws.{some_number}
use Rattle.cofj.specs.Text.{hex_text}
use Rattle.cofj.specs.Writing.{Text, no_text, text}
use Rattle.cofj.specs.Calls.{Wrote, over}
use Rattle.cofj.specs.Calls.{wrote as written}
use Rattle.lineform.specs.Writes.{wrote, put_line, put_text}
use Rattle.lineform.proofs.WriteLaws.{line_end, text_none, text_line, text_text, text_end, text_size_lem, text_more_length, text_append, text_front, text_whole}
use Rattle.classes.specs.Machine.{pick}
use Rattle.tables.specs.Writings.{After, class_in, long_in, classes_in, methods_in, main_first, main_in, lines_in, gives, readable, text_in, written_by, wrote_table, writing_of}
use Rattle.tables.specs.declared.read.Reading.{Reading}
use Rattle.tables.specs.Readings.{reading_of, Into}

-- ---- counts
pub after_is : (x : ℕ) → x < 256 → After x (x - 1)
after_is x h = record { same = sym (min-eq_left {n = x - 1} {m = 254} (omega arith)); small = omega arith }

-- ---- one class
module _ (B out o : List ℕ) (k own at r : ℕ) (c : own ≡ min (get_or B (16 * k + 2) 0) 4) where
  pub class_line_is :
      wrote r o ≡ put_line out at (1 ∷ take (3 + 2 * own)
      (k ∷ get_or B (16 * k) 0 ∷ get_or B (16 * k + 2) 0 ∷ get_or B (16 * k + 3) 0 ∷ get_or B (16 * k + 4) 0 ∷ get_or B (16 * k + 5) 0
      ∷ get_or B (16 * k + 6) 0 ∷ get_or B (16 * k + 7) 0 ∷ get_or B (16 * k + 8) 0 ∷ get_or B (16 * k + 9) 0 ∷ get_or B (16 * k + 10) 0 ∷ []))
      → wrote r o ≡ put_line out at (class_in B k)
  unfolding class_in
  class_line_is e = rw (← c) e

class_length : (B : List ℕ) (k : ℕ) → length (class_in B k) ≤ 12
unfolding class_in
class_length B k = simp length-take (omega arith)

-- ---- the classes
pub classes_none : (B out : List ℕ) (at : ℕ) → wrote at out ≡ put_text out at (classes_in B 0)
unfolding classes_in
classes_none B out at = text_none out at

module _ (B out o o2 : List ℕ) (at k w w2 : ℕ) (e2 : wrote w2 o2 ≡ put_line o w (class_in B (k + 1))) where
  pub class_end : w ≤ at + 25 * k → w2 ≤ at + 25 * (k + 1)
  class_end h = omega (arith, line_end o o2 w w2 _ e2, class_length B (k + 1))

  pub class_more : wrote w o ≡ put_text out at (classes_in B k) → wrote w2 o2 ≡ put_text out at (classes_in B (k + 1))
  unfolding classes_in
  class_more e =
      let e3 : wrote w2 o2 ≡ put_line o w (class_in B (suc k)) = rw (← (add-one k)) e2 in
      rw (add-one k) (text_line out o at w (classes_in B k) e o2 w2 (class_in B (suc k)) e3)

pub classes_all : (B out o : List ℕ) (at k n w : ℕ) → k ≤ n → n ≤ k → wrote w o ≡ put_text out at (classes_in B k) → wrote w o ≡ put_text out at (classes_in B n)
classes_all B out o at k n w h l e = let q : k ≡ n = omega arith in rw q at e

classes_length : (B : List ℕ) (n : ℕ) → length (hex_text (classes_in B n)) ≤ 25 * n
unfolding classes_in
classes_length B zero = omega arith
classes_length B (suc n) = omega (arith, classes_length B n, text_more_length (classes_in B n) (class_in B (suc n)), class_length B (suc n))

-- ---- the methods
pub methods_none : (B out : List ℕ) (at : ℕ) → wrote at out ≡ put_text out at (methods_in B 0)
unfolding methods_in
methods_none B out at = text_none out at

module _ (B out o o2 : List ℕ) (at i n w w2 : ℕ) (c : After (get_or B (8976 + 256 * i + 255) 0) n)
    (e2 : wrote w2 o2 ≡ put_line o w (2 ∷ take (8976 + 256 * i + 1 + n - (8976 + 256 * i + 1)) (drop (8976 + 256 * i + 1) B))) where
  pub method_end : w ≤ at + 511 * i → w2 ≤ at + 511 * (i + 1)
  method_end h =
      let l = line_end o o2 w w2 _ e2 in
      let s : length (take (8976 + 256 * i + 1 + n - (8976 + 256 * i + 1)) (drop (8976 + 256 * i + 1) B)) ≤ 254 = let q = c.small in simp (length-take, length-drop) (omega arith) in
      omega arith

  pub method_more : wrote w o ≡ put_text out at (methods_in B i) → wrote w2 o2 ≡ put_text out at (methods_in B (i + 1))
  unfolding methods_in
  method_more e =
      let q : 8976 + 256 * i + 1 + n - (8976 + 256 * i + 1) ≡ n = omega arith in
      let e3 : wrote w2 o2 ≡ put_line o w (2 ∷ take n (drop (8976 + 256 * i + 1) B)) = rw q at e2 in
      rw (add-one i) (text_line out o at w (methods_in B i) e o2 w2 (2 ∷ long_in B (8976 + 256 * i)) (rw (← c.same) e3))

pub methods_all : (B out o : List ℕ) (at i m w : ℕ) → i ≤ m → m ≤ i → wrote w o ≡ put_text out at (methods_in B i) → wrote w o ≡ put_text out at (methods_in B m)
methods_all B out o at i m w h l e = let q : i ≡ m = omega arith in rw q at e

-- ---- main
module _ (x : ℕ) where
  pub first_plain : x ≡ 0 → 3 ≡ main_first x
  first_plain e = rw e

  pub first_input : (x ≡ 0 → ⊥) → 4 ≡ main_first x
  first_input e = rw (ne_eqb x 0 e)

pub main_line_is : (B out o : List ℕ) (n f at r : ℕ) → After (get_or B 25615 0) n → f ≡ main_first (get_or B 25360 0)
    → wrote r o ≡ put_line out at (f ∷ take (25361 + n - 25361) (drop 25361 B)) → wrote r o ≡ put_line out at (main_in B)
main_line_is B out o n f at r c ef e =
    let q : 25361 + n - 25361 ≡ n = omega arith in
    let e3 : wrote r o ≡ put_line out at (f ∷ take n (drop 25361 B)) = rw q at e in
    rw (← c.same, ← ef) e3

-- ---- the whole text
long_length : (B : List ℕ) (b : ℕ) → length (long_in B b) ≤ 254
long_length B b = let q = min-le_right (get_or B (b + 255) 0 - 1) 254 in simp (length-take, length-drop) (omega arith)

methods_length : (B : List ℕ) (m : ℕ) → length (hex_text (methods_in B m)) ≤ 511 * m
unfolding methods_in
methods_length B zero = omega arith
methods_length B (suc m) = omega (arith, methods_length B m, text_more_length (methods_in B m) (2 ∷ long_in B (8976 + 256 * m)), long_length B (8976 + 256 * m))

pub lines-length : (B : List ℕ) → length (hex_text (lines_in B)) ≤ 34015
unfolding lines_in
lines-length B =
    let n = min (get_or B 11 0) 32 in
    let m = min (get_or B 12 0) 64 in
    let a = text_append (classes_in B n) (methods_in B m) in
    let b = ap (λ (l : List ℕ). length l) a ∙ length-append (hex_text (classes_in B n)) (hex_text (methods_in B m)) in
    omega
    (arith, b, text_more_length (classes_in B n ++ methods_in B m) (main_in B), long_length B 25360, classes_length B n, methods_length B m, min-le_right (get_or B 11 0) 32, min-le_right (get_or B 12 0) 64)

module _ (B out o1 : List ℕ) (n m a : ℕ) (cn : n ≡ min (get_or B 11 0) 32) (cm : m ≡ min (get_or B 12 0) 64) (e1 : wrote a o1 ≡ put_text out 0 (classes_in B n)) where
  pub methods_room : 34015 ≤ length out → a + 511 * m ≤ length o1
  methods_room h = omega (arith, cn, cm, min-le_right (get_or B 11 0) 32, min-le_right (get_or B 12 0) 64, text_end out o1 0 a (classes_in B n) e1, text_size_lem out o1 0 a (classes_in B n) e1, classes_length B n)

  module _ (o2 : List ℕ) (b : ℕ) (e2 : wrote b o2 ≡ put_text o1 a (methods_in B m)) where
    pub main_room : 34015 ≤ length out → b + 511 ≤ length o2
    main_room h =
        omega
        (arith, cn, cm, min-le_right (get_or B 11 0) 32, min-le_right (get_or B 12 0) 64, text_end out o1 0 a (classes_in B n) e1, text_size_lem out o1 0 a (classes_in B n) e1, classes_length B n, text_end o1 o2 a b (methods_in B m) e2, text_size_lem o1 o2 a b (methods_in B m) e2, methods_length B m)

    pub lines_are : (o3 : List ℕ) (r : ℕ) → wrote r o3 ≡ put_line o2 b (main_in B) → wrote r o3 ≡ put_text out 0 (lines_in B)
    unfolding lines_in
    lines_are o3 r e3 =
        let e5 : wrote b o2 ≡ put_text out 0 (classes_in B n ++ methods_in B m) = text_text out o1 0 a (classes_in B n) e1 o2 b (methods_in B m) e2 in
        let e6 : wrote r o3 ≡ put_text out 0 ((classes_in B n ++ methods_in B m) ++ (main_in B ∷ [])) = text_line out o2 0 b (classes_in B n ++ methods_in B m) e5 o3 r (main_in B) e3 in
        rw (← cn, ← cm) e6

refused_gives : (r : Reading) (B : List ℕ) → (r.refusal ≡ 0 → ⊥) → gives r B ≡ false
unfolding gives
refused_gives r B n = ap (λ (b : Bool). pick b (bytes_eq B r.table.bytes) false) (ne_eqb r.refusal 0 n)

read_gives : (r : Reading) (B : List ℕ) → r.refusal ≡ 0 → gives r B ≡ bytes_eq B r.table.bytes
unfolding gives
read_gives r B z = ap (λ (b : Bool). pick b (bytes_eq B r.table.bytes) false) (eq-eqb r.refusal 0 z)

-- ---- whether the candidate reads into the table
module _ (B out o : List ℕ) (w : ℕ) (e : wrote w o ≡ put_text out 0 (lines_in B)) where
  pub text_short : w ≤ 34015
  text_short = omega (arith, text_end out o 0 w (lines_in B) e, lines-length B)

  pub text_fits : w < 65536
  text_fits = omega (arith, text_short)

  pub text_room : length out ≡ 34015 → w ≤ length o
  text_room s = omega (arith, text_short, text_size_lem out o 0 w (lines_in B) e)

  pub text_count : length out ≡ 34015 → w ≡ length (take w o)
  text_count s = sym (length-take-le w o (text_room s))

  module _ (x : Result (Unit {0}) Refusal) (C : List ℕ) (ex : Into (reading_of (take w o)) x C) where
    reading_is : (s : length out ≡ 34015) → reading_of (take w o) ≡ reading_of (hex_text (lines_in B))
    reading_is s = ap reading_of (text_front out o 0 w (lines_in B) e (omega (arith, text_short)))

    pub not_read : (k : Refusal) → length out ≡ 34015 → x ≡ Err k → false ≡ readable B
    unfolding readable
    not_read k s q =
        let n : refusal_number k ≡ (reading_of (take w o)).refusal = sym (ap answer_number q) ∙ ex.number in
        sym (ap (λ (r : Reading). gives r B) (sym (reading_is s)) ∙ refused_gives (reading_of (take w o)) B (λ z. omega (arith, n, z, some_number k)))

    pub reads : (b : Bool) → length out ≡ 34015 → x ≡ Ok tt → b ≡ bytes_eq B C → b ≡ readable B
    unfolding readable
    reads b s z q =
        q ∙ ap (bytes_eq B) (ex.table z)
        ∙ sym (ap (λ (r : Reading). gives r B) (sym (reading_is s)) ∙ read_gives (reading_of (take w o)) B (sym ex.number ∙ ap answer_number z))

-- ---- the answer
sized : List ℕ → List ℕ → Bool → Wrote
sized s d true = record { answer = record { refusal = 9; length = 0 }; buffer = d }
sized s d false = record { answer = record { refusal = 0; length = length s }; buffer = over s d }

by_size : (s d : List ℕ) (b : Bool) → ltb (length d) 49567 ≡ b → written (text s) d ≡ sized s d b
unfolding sized
by_size s d b e = go (ltb (length d) 49567) ∙ ap (sized s d) e
  where
    go : (c : Bool) → ◌≡◌ {A = Wrote} (elim c as (λ _. Wrote) [
      | true ↦ record { answer = record { refusal = 9; length = 0 }; buffer = d }
      | false ↦ record { answer = record { refusal = 0; length = length s }; buffer = over s d }
    ]) (sized s d c)
    go true = refl
    go false = refl

module _ (B : List ℕ) (b : Bool) (eb : b ≡ readable B) where
  pub text_none_in : not b ≡ true → text_in B ≡ no_text
  unfolding text_in
  text_none_in f = rw (← eb, not-true b f)

  pub text_in_lem : not b ≡ false → text_in B ≡ text (hex_text (lines_in B))
  unfolding text_in
  text_in_lem f = rw (← eb, not-false b f)

module _ (B d : List ℕ) (b : Bool) (eb : b ≡ readable B) where
  pub refused_8 : not b ≡ true → wrote_table (written_by (Err UnreadableTable)) d ≡ writing_of B d
  unfolding writing_of
  refused_8 f = sym (ap (λ (x : Text). written x d) (text_none_in B b eb f))

  module _ (f : not b ≡ false) where
    pub refused_9 : length d < 49567 → wrote_table (written_by (Err ShortText)) d ≡ writing_of B d
    unfolding writing_of sized
    refused_9 h = sym (ap (λ (x : Text). written x d) (text_in_lem B b eb f) ∙ by_size (hex_text (lines_in B)) d true (lt-ltb (length d) 49567 h))

    pub text_put : (o : List ℕ) (w : ℕ) → 49567 ≤ length d → wrote w o ≡ put_text d 0 (lines_in B) → wrote_table (written_by (Ok w)) o ≡ writing_of B d
    unfolding writing_of sized over
    text_put o w h e =
        let k : w ≡ length (hex_text (lines_in B)) = omega (arith, text_end d o 0 w (lines_in B) e) in
        let p = text_whole d o 0 w (lines_in B) e (omega (arith, text_short B d o w e)) in
        let q : o ≡ hex_text (lines_in B) ++ drop (length (hex_text (lines_in B))) d = p ∙ ap (λ (i : ℕ). hex_text (lines_in B) ++ drop i d) k in
        let a : wrote_table (record { refusal = 0; length = w }) o ≡ sized (hex_text (lines_in B)) d false = λ i. record { answer = record { refusal = 0; length = k i }; buffer = q i } in
        a ∙ sym (ap (λ (x : Text). written x d) (text_in_lem B b eb f) ∙ by_size (hex_text (lines_in B)) d false (le-ltb (length d) 49567 h))
