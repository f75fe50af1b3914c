-- The class lines of a text into a table: the language's rules of classes, and the rows.
use Rattle.std.proofs.Common.{ℕ, zero, suc, ◌+◌, ◌-◌, ◌*◌, ◌<◌, ◌≤◌, zero-le, arith, add-one, ◌≡◌, refl, sym, ap, ap₂, ◌∙◌, subst, Bool, true, false, ◌&&◌, true≢false, List, [], ◌∷◌, ◌++◌, append_assoc, append-nil, eqb, leb, ltb, length, get_or, drop, length-append, Some, None, eqb-true, ltb-true, ltb-false, leb-true, le-leb, le-ltb}
use Rattle.std.proofs.Math.Bool.{false≢true}
use Rattle.std.proofs.Math.Seq.{sets, get_or-append_seam, take-append_seam, drop-append-add}
use borrow.Author.Tests.{eqb-false, lt-leb}
use Rattle.cofj.specs.Limits.{class_count, field_count}
use Rattle.cofj.specs.Syntax.{Ty, Class}
use Rattle.cofj.specs.Classes.{parent_of, fields_to, fields_of}
use Rattle.cofj.specs.Typing.{closed_tag, all_closed}
use Rattle.cofj.specs.Frames.{ClassFrame}
use Rattle.cofj.specs.Tables.{numbered, known, all_known, classes_good, bodies}
use Rattle.cofj.specs.Writing.{types_bytes, class_line}
use Rattle.cofj.proofs.Chain.{ParentsSmaller}
use Rattle.cofj.proofs.Partial.{and_true}
use Rattle.lineform.specs.Packed.{packed}
use Rattle.classes.specs.Layout.{class_row, filled}
use Rattle.classes.specs.Placing.{good_types, Placed, placed, above, class_good, class_put, class_placed}
use Rattle.classes.specs.Building.{Walked, walked, line_at, onward, lines_placed}
use Rattle.classes.proofs.Lists.{at_seam, past}
use Rattle.classes.proofs.Laws.{total_row}
use Rattle.classes.proofs.Zones.{filled_class}
use Rattle.classes.proofs.Filling.{parent_old, fields_old, class_filled}
use Rattle.classes.proofs.OnTables.{fields_enough}

-- ---- tests in a row
pub swap : (a b c d : Bool) → (a && b) && (c && d) ≡ (a && c) && (b && d)
swap false b c d = refl
swap true true c d = refl
swap true false true d = refl
swap true false false d = refl

pub and_false : (b : Bool) → b && false ≡ false
and_false true = refl
and_false false = refl

-- ---- types in a line
pub types_are : (n : ℕ) (us : List Ty) (r : List ℕ) → good_types n (length us) (types_bytes us ++ r) ≡ all_known n us && all_closed us
unfolding good_types all_known
types_are n [] r = refl
types_are n (u ∷ us) r =
    ap (λ (b : Bool). known n u && closed_tag u.tag && b) (types_are n us r) ∙ swap (known n u) (closed_tag u.tag) (all_known n us) (all_closed us)

-- ---- lines one after another: what all of them give, for a test that they pass
abbrev pub refused : Walked → Bool
refused (walked None B) = true
refused (walked (Some a) B) = false

pub record Ends (ok : Bool) (w : Walked) (a : ℕ) (B : List ℕ) : Type 0 where
  pub good : ok ≡ true → w ≡ walked (Some a) B
  pub bad : ok ≡ false → refused w ≡ true

pub ends_step : {ok okk : Bool} {w : Walked} {a : ℕ} {B : List ℕ} (first : Bool) → ok ≡ first && okk → (first ≡ false → refused w ≡ true) → (first ≡ true → Ends okk w a B) → Ends ok w a B
ends_step true e no' yes' = let i = yes' refl in record { good = λ z. i.good (sym e ∙ z); bad = λ z. i.bad (sym e ∙ z) }
ends_step false e no' yes' = record { good = λ z. absurd (false≢true (sym e ∙ z)); bad = λ z. no' refl }

pub ends_moved : {ok : Bool} {w w' : Walked} {a a' : ℕ} {B : List ℕ} → w ≡ w' → a' ≡ a → Ends ok w' a' B → Ends ok w a B
ends_moved {B = B} ew ea i = record { good = λ z. ew ∙ i.good z ∙ ap (λ (x : ℕ). walked (Some x) B) ea; bad = λ z. ap refused ew ∙ i.bad z }

-- the line l stands in S after P
module _ (S P l R : List ℕ) (at : ℕ) (e : S ≡ P ++ (length l ∷ (l ++ R))) (h : at ≡ length P) where
  pub size_is : get_or S at 0 ≡ length l
  size_is = rw (e, h) (get_or-append_seam P (length l) (l ++ R) 0)

  size : length S ≡ length P + suc (length l + length R)
  size = let a = length-append P (length l ∷ (l ++ R)) in let b = length-append l R in rw e (omega arith)

  pub line_is : line_at S at ≡ l
  line_is =
      let d : drop (at + 1) S ≡ l ++ R = rw (e, h) (drop-append-add P (length l ∷ (l ++ R)) 1) in
      rw (size_is, d) (take-append_seam l R)

  pub lines_step : (put : List ℕ → ℕ → List ℕ → Placed) (c k : ℕ) (B : List ℕ)
      → lines_placed put S (suc c) at k B ≡ onward (put l k B) (λ B'. lines_placed put S c (at + 1 + length l) (k + 1) B')
  unfolding lines_placed
  lines_step put c k B =
      let z = size in
      rw (line_is, size_is, lt-leb (length S) at (omega arith), le-ltb (length S - (at + 1)) (length l) (omega arith))

-- ---- one class
module _ (n : ℕ) (cs : List Class) (s : ParentsSmaller cs) (few : length cs < class_count) (num : ℕ) (c : Class) where
  abbrev k : ℕ
  k = suc (length cs)

  abbrev B : List ℕ
  B = filled 0 0 cs [] []

  abbrev l : List ℕ
  l = class_line num c

  -- the fields of the class in a list that goes on
  fields_new : (ys : List Class) → c.parent < k → length (fields_of (cs ++ (c ∷ ys)) k) ≡ length (fields_of cs c.parent) + length c.own
  unfolding fields_to
  fields_new ys p =
      rw (
        at_seam cs c ys,
        length-append (fields_to (length cs) (cs ++ (c ∷ ys)) c.parent) c.own,
        fields_old cs (c ∷ ys) s (length cs) c.parent (omega arith),
        fields_enough cs s (length cs) c.parent c.parent (omega arith) (omega arith),
      )

  above_is : c.parent < k → above l B ≡ length (fields_of cs c.parent)
  unfolding fields_to
  above_is p = sym (total_row B c.parent (omega arith)) ∙ filled_class 0 0 cs [] [] c.parent 1 (omega arith) (omega arith) ∙ go c.parent
    where
      go : (q : ℕ) → get_or (class_row 0 0 cs q) 1 0 ≡ length (fields_of cs q)
      go zero = refl
      go (suc q) = refl

  -- the three tests of the number of fields are one
  one_test : (x y : ℕ) → leb x 4 && leb y 4 && leb (x + y) 4 ≡ leb (x + y) 4
  one_test x y = go (leb (x + y) 4) refl
    where
      go : (b : Bool) → leb (x + y) 4 ≡ b → leb x 4 && leb y 4 && b ≡ b
      go true q = let h = leb-true (x + y) 4 q in rw (le-leb x 4 (omega arith), le-leb y 4 (omega arith))
      go false q = and_false (leb x 4 && leb y 4)

  -- the rules for this class, in the whole list of classes
  abbrev rules : List Class → Bool
  rules ys = all_known n c.own && all_closed c.own && leb (length (fields_of (cs ++ (c ∷ ys)) k)) field_count

  good_is : (ys : List Class) → class_good l k n B ≡ (eqb num k && ltb c.parent k) && rules ys
  unfolding class_good
  good_is ys = rw (le-leb 4 (length l) (omega arith)) (go (eqb num k) (ltb c.parent k) refl)
    where
      types : good_types n (length c.own) (types_bytes c.own) ≡ all_known n c.own && all_closed c.own
      types = ap (λ (x : List ℕ). good_types n (length c.own) x) (sym (append-nil (types_bytes c.own))) ∙ types_are n c.own []

      go : (a b : Bool) → ltb c.parent k ≡ b
          → a && b && good_types n (length c.own) (types_bytes c.own) && leb (above l B) 4 && leb (length c.own) 4 && leb (above l B + length c.own) 4 ≡ (a && b) && rules ys
      go false b q = refl
      go true false q = refl
      go true true q =
          let p = ltb-true c.parent k q in
          rw (types, above_is p, fields_new ys p) (last (all_known n c.own && all_closed c.own) (length (fields_of cs c.parent)) (length c.own))
        where
          last : (t : Bool) (x y : ℕ) → t && leb x 4 && leb y 4 && leb (x + y) 4 ≡ t && leb (x + y) 4
          last true x y = one_test x y
          last false x y = refl

  row_is : c.parent < k → class_row 0 0 (cs ++ (c ∷ [])) k ≡ c.parent ∷ (above l B + length c.own) ∷ length c.own ∷ types_bytes c.own
  row_is p = rw (fields_new [] p, at_seam cs c [], above_is p)

  put_is : c.parent < k → length c.own ≤ 4 → class_put l k B ≡ filled 0 0 (cs ++ (c ∷ [])) [] []
  unfolding class_put
  put_is p small =
      let e1 : 16 * k + 1 ≡ suc (16 * k) = omega arith in
      let e2 : 16 * k + 2 ≡ suc (suc (16 * k)) = omega arith in
      rw (e1, e2) (ap (λ (x : List ℕ). sets B (16 * k) x) (sym (row_is p)) ∙ class_filled 0 0 cs c [] [] s few small)

  smaller_new : c.parent < k → ParentsSmaller (cs ++ (c ∷ []))
  smaller_new p j = go (ltb j (length cs)) refl (eqb j (length cs)) refl
    where
      go : (x : Bool) → ltb j (length cs) ≡ x → (y : Bool) → eqb j (length cs) ≡ y → parent_of (cs ++ (c ∷ [])) (suc j) ≤ j
      go true q y r = let h = ltb-true j (length cs) q in rw (parent_old cs (c ∷ []) (suc j) h) (s j)
      go false q true r = let h = eqb-true j (length cs) r in rw (h, at_seam cs c []) (omega arith)
      go false q false r =
          let h = ltb-false j (length cs) q in
          let g = eqb-false j (length cs) r in
          let e = length-append cs (c ∷ []) in
          rw (past (cs ++ (c ∷ [])) j (omega (arith, g))) zero-le

  -- what the rules give
  few_own : (ys : List Class) → c.parent < k → rules ys ≡ true → length c.own ≤ 4
  few_own ys p e =
      let a = leb-true (length (fields_of (cs ++ (c ∷ ys)) k)) 4 (and_true (all_known n c.own && all_closed c.own) (leb (length (fields_of (cs ++ (c ∷ ys)) k)) 4) e).1 in
      let b = fields_new ys p in
      omega arith

  pub class_bad : (ys : List Class) → (eqb num k && ltb c.parent k) && rules ys ≡ false → class_placed l k n B ≡ placed false B
  unfolding class_placed
  class_bad ys e = rw (good_is ys, e)

  pub class_good_lem : (ys : List Class) → (eqb num k && ltb c.parent k) && rules ys ≡ true
      → (class_placed l k n B ≡ placed true (filled 0 0 (cs ++ (c ∷ [])) [] [])) × ParentsSmaller (cs ++ (c ∷ []))
  unfolding class_placed
  class_good_lem ys e =
      let a = and_true (eqb num k && ltb c.parent k) (rules ys) e in
      let p = ltb-true c.parent k (and_true (eqb num k) (ltb c.parent k) a.0).1 in
      (rw (good_is ys, e) (ap (λ (x : List ℕ). placed true x) (put_is p (few_own ys p a.1))), smaller_new p)

-- ---- all classes
abbrev pub class_lines_of : List ClassFrame → List (List ℕ)
class_lines_of [] = []
class_lines_of (f ∷ fs) = class_line f.number f.body ∷ class_lines_of fs

abbrev pub class_rules : ℕ → ℕ → List Class → List ClassFrame → Bool
class_rules n k all fs = numbered k fs && classes_good n all (bodies fs) k

module _ (n : ℕ) (S R : List ℕ) where
  abbrev put : List ℕ → ℕ → List ℕ → Placed
  put l k B = class_placed l k n B

  -- one more class
  class_step : (f : ClassFrame) (fs : List ClassFrame) (at : ℕ) (cs : List Class)
      → ((c y : ℕ) (B : List ℕ) → lines_placed put S (suc c) at y B ≡ onward (put (class_line f.number f.body) y B) (λ B'. lines_placed put S c (at + 1 + length (class_line f.number f.body)) (y + 1) B'))
      → ParentsSmaller cs → length cs < class_count
      → (ParentsSmaller (cs ++ (f.body ∷ []))
      → Ends (class_rules n (suc (length cs) + 1) (cs ++ (f.body ∷ bodies fs)) fs) (lines_placed put S (length fs) (at + 1 + length (class_line f.number f.body)) (suc (length cs) + 1) (filled 0 0 (cs ++ (f.body ∷ [])) [] []))
      (at + 1 + length (class_line f.number f.body) + length (packed (class_lines_of fs))) (filled 0 0 (cs ++ (f.body ∷ bodies fs)) [] []))
      → Ends (class_rules n (suc (length cs)) (cs ++ (f.body ∷ bodies fs)) (f ∷ fs)) (lines_placed put S (suc (length fs)) at (suc (length cs)) (filled 0 0 cs [] []))
      (at + length (packed (class_lines_of (f ∷ fs)))) (filled 0 0 (cs ++ (f.body ∷ bodies fs)) [] [])
  unfolding packed numbered classes_good
  class_step f fs at cs step s few ih = ends_step first ok (λ q. ap refused (no_class q)) a_class
    where
      l : List ℕ
      l = class_line f.number f.body

      all : List Class
      all = cs ++ (f.body ∷ bodies fs)

      k : ℕ
      k = suc (length cs)

      first : Bool
      first = (eqb f.number k && ltb f.body.parent k) && (all_known n f.body.own && all_closed f.body.own && leb (length (fields_of all k)) field_count)

      rest_ok : Bool
      rest_ok = numbered (suc k) fs && classes_good n all (bodies fs) (suc k)

      ok : class_rules n k all (f ∷ fs) ≡ first && rest_ok
      ok =
          swap (eqb f.number k && ltb f.body.parent k) (numbered (suc k) fs) (all_known n f.body.own && all_closed f.body.own && leb (length (fields_of all k)) field_count)
          (classes_good n all (bodies fs) (suc k))

      ends : at + 1 + length l + length (packed (class_lines_of fs)) ≡ at + length (packed (class_lines_of (f ∷ fs)))
      ends = let e = length-append l (packed (class_lines_of fs)) in omega arith

      no_class : first ≡ false → lines_placed put S (suc (length fs)) at k (filled 0 0 cs [] []) ≡ walked None (filled 0 0 cs [] [])
      no_class q = step (length fs) k (filled 0 0 cs [] []) ∙ rw (class_bad n cs s few f.number f.body (bodies fs) q)

      a_class : first ≡ true → Ends rest_ok (lines_placed put S (suc (length fs)) at k (filled 0 0 cs [] [])) (at + length (packed (class_lines_of (f ∷ fs)))) (filled 0 0 all [] [])
      a_class q =
          let c = class_good_lem n cs s few f.number f.body (bodies fs) q in
          ends_moved (step (length fs) k (filled 0 0 cs [] []) ∙ rw (c.0, add-one k)) ends (rw (add-one k) at (ih c.1))

  pub classes_walk : (fs : List ClassFrame) (P : List ℕ) (at k : ℕ) (cs all : List Class) → S ≡ P ++ (packed (class_lines_of fs) ++ R) → at ≡ length P → k ≡ suc (length cs)
      → all ≡ cs ++ bodies fs → ParentsSmaller cs → length cs + length fs ≤ class_count
      → Ends (class_rules n k all fs) (lines_placed put S (length fs) at k (filled 0 0 cs [] [])) (at + length (packed (class_lines_of fs))) (filled 0 0 all [] [])
  unfolding packed numbered classes_good lines_placed
  classes_walk [] P at k cs all eS ea ek eall s few = record {
    good = λ _. let q : at ≡ at + 0 = omega arith in ap₂ (λ (x : ℕ) (y : List Class). walked (Some x) (filled 0 0 y [] [])) q (sym (eall ∙ append-nil cs));
    bad = λ e. absurd (true≢false e);
  }
  classes_walk (f ∷ fs) P at k cs all eS ea ek eall s few =
      let l = class_line f.number f.body in
      let X = packed (class_lines_of fs) ++ R in
      let e1 : S ≡ P ++ (length l ∷ (l ++ X)) = eS ∙ ap (λ (x : List ℕ). P ++ (length l ∷ x)) (append_assoc l (packed (class_lines_of fs)) R) in
      let e2 : S ≡ (P ++ (length l ∷ l)) ++ X = e1 ∙ sym (append_assoc P (length l ∷ l) X) in
      let m = length-append cs (f.body ∷ []) in
      let ep = length-append P (length l ∷ l) in
      let ec : cs ++ (f.body ∷ bodies fs) ≡ (cs ++ (f.body ∷ [])) ++ bodies fs = sym (append_assoc cs (f.body ∷ []) (bodies fs)) in
      subst
      (λ (a : List Class). Ends (class_rules n k a (f ∷ fs)) (lines_placed put S (length (f ∷ fs)) at k (filled 0 0 cs [] [])) (at + length (packed (class_lines_of (f ∷ fs)))) (filled 0 0 a [] []))
      (sym eall) (rw ek
      (class_step f fs at cs (λ c y B. lines_step S P l X at e1 ea put c y B) s (omega arith)
      (λ s'. classes_walk fs (P ++ (length l ∷ l)) (at + 1 + length l) (suc (length cs) + 1) (cs ++ (f.body ∷ [])) (cs ++ (f.body ∷ bodies fs)) e2 (omega arith) (omega arith) ec s' (omega arith))))
