-- A table that is being filled: what a class's row adds. Not here: a method's (FillingMethods).
use Rattle.std.proofs.Common.{ℕ, zero, suc, ◌+◌, ◌-◌, ◌*◌, ◌/◌, ◌%◌, ◌<◌, ◌≤◌, not-suc-le-zero, arith, ◌≡◌, refl, sym, ap, ap₂, ◌∙◌, Bool, true, false, List, [], ◌∷◌, ◌++◌, eqb, ltb, length, get_or, length-append, ext_get_or, ltb-true, ltb-false, eqb-true}
use Rattle.std.proofs.Math.ListN.{get_or-eq_default}
use Rattle.std.proofs.Math.Seq.{sets, length-sets}
use borrow.Author.Tests.{eqb-false}
use Rattle.cofj.specs.Limits.{class_count, method_count}
use Rattle.cofj.specs.Syntax.{Ty, Class, Method}
use Rattle.cofj.specs.Classes.{parent_of, parent_or0, class_at, own_or_none, fields_to}
use Rattle.cofj.proofs.Chain.{ParentsSmaller, parent_le}
use Rattle.classes.specs.Figures.{table_size, row_size, long_size, index_at, methods_at, main_at}
use Rattle.classes.specs.Layout.{class_row, filled}
use Rattle.classes.proofs.Lists.{at_front, at_seam, past, sets_before, sets_after, sets_in}
use Rattle.classes.proofs.Zones.{length-filled, filled_class, filled_index, filled_method, filled_main, length_types}
use Rattle.classes.proofs.OnTables.{fields_object}

-- ---- two tables' bytes that agree in each zone
pub record Agree (B C : List ℕ) : Type 0 where
  pub classes : (c j : ℕ) → c ≤ class_count → j < row_size → get_or B (row_size * c + j) 0 ≡ get_or C (row_size * c + j) 0
  pub index : (c x : ℕ) → c ≤ class_count → x < long_size → get_or B (index_at + long_size * c + x) 0 ≡ get_or C (index_at + long_size * c + x) 0
  pub methods : (i j : ℕ) → i < method_count → j < long_size → get_or B (methods_at + long_size * i + j) 0 ≡ get_or C (methods_at + long_size * i + j) 0
  pub main : (j : ℕ) → j < long_size → get_or B (main_at + j) 0 ≡ get_or C (main_at + j) 0

pub agree : (B C : List ℕ) → length B ≡ table_size → length C ≡ table_size → Agree B C → B ≡ C
agree B C lb lc a = ext_get_or 0 B C (lb ∙ sym lc) (λ i h. zone i (omega arith) (ltb i 528) refl (ltb i 8976) refl (ltb i 25360) refl)
  where
    moved : (i j : ℕ) → i ≡ j → get_or B j 0 ≡ get_or C j 0 → get_or B i 0 ≡ get_or C i 0
    moved i j e p = rw e p

    zone : (i : ℕ) → i < 25616 → (x : Bool) → ltb i 528 ≡ x → (y : Bool) → ltb i 8976 ≡ y → (z : Bool) → ltb i 25360 ≡ z → get_or B i 0 ≡ get_or C i 0
    zone i h true p y q z r =
        let l = ltb-true i 528 p in
        moved i (16 * (i / 16) + i % 16) (omega arith) (a.classes (i / 16) (i % 16) (omega arith) (omega arith))
    zone i h false p true q z r =
        let l = ltb-false i 528 p in
        let g = ltb-true i 8976 q in
        moved i (528 + 256 * ((i - 528) / 256) + (i - 528) % 256) (omega arith) (a.index ((i - 528) / 256) ((i - 528) % 256) (omega arith) (omega arith))
    zone i h false p false q true r =
        let l = ltb-false i 8976 q in
        let g = ltb-true i 25360 r in
        moved i (8976 + 256 * ((i - 8976) / 256) + (i - 8976) % 256) (omega arith) (a.methods ((i - 8976) / 256) ((i - 8976) % 256) (omega arith) (omega arith))
    zone i h false p false q false r =
        let l = ltb-false i 25360 r in
        moved i (25360 + (i - 25360)) (omega arith) (a.main (i - 25360) (omega arith))

-- ---- more classes after those that are there
module _ (xs ys : List Class) where
  pub parent_old : (p : ℕ) → p ≤ length xs → parent_of (xs ++ ys) p ≡ parent_of xs p
  parent_old zero h = refl
  parent_old (suc q) h = ap parent_or0 (at_front xs ys q (omega arith))

  pub own_old : (p : ℕ) → p ≤ length xs → own_or_none (class_at (xs ++ ys) p) ≡ own_or_none (class_at xs p)
  own_old zero h = refl
  own_old (suc q) h = ap own_or_none (at_front xs ys q (omega arith))

  pub fields_old : ParentsSmaller xs → (n p : ℕ) → p ≤ length xs → fields_to n (xs ++ ys) p ≡ fields_to n xs p
  unfolding fields_to
  fields_old s zero p h = refl
  fields_old s (suc n) p h =
      ap₂ {C = List Ty} ◌++◌
      (ap (λ (k : ℕ). fields_to n (xs ++ ys) k) (parent_old p h) ∙ fields_old s n (parent_of xs p) (parent_le xs s p (length xs) (omega arith)))
      (own_old p h)

-- a class past the list has no parent and no fields
pub row_past : (n m : ℕ) (xs : List Class) (q : ℕ) → length xs ≤ q → class_row n m xs (suc q) ≡ 0 ∷ 0 ∷ 0 ∷ []
unfolding fields_to
row_past n m xs q h = rw (past xs q h, fields_object xs q)

pub row_old : (n m : ℕ) (xs ys : List Class) → ParentsSmaller xs → (c : ℕ) → c ≤ length xs → class_row n m (xs ++ ys) c ≡ class_row n m xs c
row_old n m xs ys s zero h = refl
row_old n m xs ys s (suc q) h = rw (parent_old xs ys (suc q) h, fields_old xs ys s (suc q) (suc q) h, own_old xs ys (suc q) h)

-- ---- the row of a new class
module _ (n m : ℕ) (cs : List Class) (c : Class) (ms : List Method) (line : List ℕ) (s : ParentsSmaller cs) (few : length cs < class_count) (small : length c.own ≤ 4) where
  abbrev new : List Class
  new = cs ++ (c ∷ [])

  abbrev k : ℕ
  k = suc (length cs)

  abbrev row : List ℕ
  row = class_row n m new k

  own_new : own_or_none (class_at new k) ≡ c.own
  own_new = ap own_or_none (at_seam cs c [])

  row-length : (3 ≤ length row) × (length row ≤ 11)
  row-length = rw own_new (let e = length_types c.own in (omega arith, omega arith))

  length_new : length new ≡ suc (length cs)
  length_new = let e = length-append cs (c ∷ []) in omega arith

  rows_past : (d : ℕ) → k < d → class_row n m cs d ≡ class_row n m new d
  rows_past zero h = absurd (not-suc-le-zero h)
  rows_past (suc q) h = row_past n m cs q (omega arith) ∙ sym (row_past n m new q (let e = length_new in omega arith))

  abbrev before : List ℕ
  before = filled n m cs ms line

  abbrev after : List ℕ
  after = filled n m new ms line

  -- byte j of row d, before and after
  class_byte : (d j : ℕ) → d ≤ class_count → j < row_size → get_or (sets before (row_size * k) row) (row_size * d + j) 0 ≡ get_or after (row_size * d + j) 0
  class_byte d j h l = go (eqb d k) refl (ltb d k) refl (ltb j (length row)) refl
    where
      go : (x : Bool) → eqb d k ≡ x → (y : Bool) → ltb d k ≡ y → (z : Bool) → ltb j (length row) ≡ z
          → get_or (sets before (row_size * k) row) (row_size * d + j) 0 ≡ get_or after (row_size * d + j) 0
      go true p y q true r =
          let e : d ≡ k = eqb-true d k p in
          let w = row-length in
          let f = length-filled n m cs ms line in
          rw e (sets_in row before (16 * k) j (ltb-true j (length row) r) (omega arith) ∙ sym (filled_class n m new ms line k j (omega arith) l))
      go true p y q false r =
          let e : d ≡ k = eqb-true d k p in
          let w = row-length in
          let g = ltb-false j (length row) r in
          rw e (sets_after row before (16 * k) (16 * k + j) (omega arith)
          ∙ filled_class n m cs ms line k j (omega arith) l
          ∙ ap (λ (x : List ℕ). get_or x j 0) (row_past n m cs (length cs) (omega arith))
          ∙ get_or-eq_default (0 ∷ 0 ∷ 0 ∷ []) 0 {n = j} (omega arith)
          ∙ sym (get_or-eq_default row 0 {n = j} g)
          ∙ sym (filled_class n m new ms line k j (omega arith) l))
      go false p true q z r =
          let g = ltb-true d k q in
          sets_before row before (16 * k) (16 * d + j) (omega arith)
          ∙ filled_class n m cs ms line d j h l
          ∙ ap (λ (x : List ℕ). get_or x j 0) (sym (row_old n m cs (c ∷ []) s d (omega arith)))
          ∙ sym (filled_class n m new ms line d j h l)
      go false p false q z r =
          let g = ltb-false d k q in
          let e = eqb-false d k p in
          let w = row-length in
          let o : k < d = omega (arith, e) in
          sets_after row before (16 * k) (16 * d + j) (omega arith)
          ∙ filled_class n m cs ms line d j h l
          ∙ ap (λ (x : List ℕ). get_or x j 0) (rows_past d o)
          ∙ sym (filled_class n m new ms line d j h l)

  pub class_filled : sets before (row_size * k) row ≡ after
  class_filled =
      let w = row-length in
      agree _ _ (length-sets before (16 * k) row ∙ length-filled n m cs ms line) (length-filled n m new ms line) (record {
        classes = class_byte;
        index = λ d x h l. sets_after row before (16 * k) (528 + 256 * d + x) (omega arith) ∙ filled_index n m cs ms line d x h l ∙ sym (filled_index n m new ms line d x h l);
        methods = λ i j h l. sets_after row before (16 * k) (8976 + 256 * i + j) (omega arith) ∙ filled_method n m cs ms line i j h l ∙ sym (filled_method n m new ms line i j h l);
        main = λ j l. sets_after row before (16 * k) (25360 + j) (omega arith) ∙ filled_main n m cs ms line j l ∙ sym (filled_main n m new ms line j l);
      })
