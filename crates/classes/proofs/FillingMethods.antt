-- A table that is being filled: what a method's row and its place in the index add.
use Rattle.std.proofs.Common.{ℕ, suc, ◌+◌, ◌*◌, ◌<◌, ◌≤◌, arith, ◌≡◌, refl, sym, ap, ◌∙◌, subst, Bool, true, false, ◌&&◌, List, [], ◌∷◌, ◌++◌, eqb, ltb, length, get_or, set, length-append, length-set, get_or-set_same, get_or-set_other, ltb-true, ltb-false, eqb-true, eq-eqb, le-ltb}
use Rattle.std.proofs.Math.Option.{Option, some}
use Rattle.std.proofs.Math.ListN.{get_elem?, get_or-eq_default}
use Rattle.std.proofs.Math.Seq.{sets, length-sets}
use borrow.Author.Tests.{eqb-false}
use Rattle.cofj.specs.Limits.{class_count, method_count, line_size}
use Rattle.cofj.specs.Syntax.{Class, Method}
use Rattle.cofj.specs.Writing.{method_line}
use Rattle.cofj.proofs.Partial.{and_true}
use Rattle.classes.specs.Machine.{pick}
use Rattle.classes.specs.Figures.{long_size}
use Rattle.classes.specs.Layout.{index_from, rest, right_place, method_byte, long_byte, filled}
use Rattle.classes.specs.Placing.{index_put, method_put}
use Rattle.classes.proofs.Lists.{at_front, at_seam, past, sets_before, sets_after, sets_in}
use Rattle.classes.proofs.Zones.{length-filled, filled_class, filled_index, filled_method, filled_main}
use Rattle.classes.proofs.Filling.{agree}

-- whether d is the method x of class c
abbrev pub is_at : Method → ℕ → ℕ → Bool
is_at d c x = eqb d.owner c && eqb d.name x

-- ---- the index of one more method
pub index_other : (k : ℕ) (ms : List Method) (d : Method) (c x : ℕ) → is_at d c x ≡ false → index_from k (ms ++ (d ∷ [])) c x ≡ index_from k ms c x
unfolding index_from
index_other k [] d c x e = rw e
index_other k (y ∷ ms) d c x e = ap (λ (r : ℕ). pick (is_at y c x) (suc k) r) (index_other (suc k) ms d c x e)

pub index_new : (k : ℕ) (ms : List Method) (d : Method) (c x : ℕ) → is_at d c x ≡ true → index_from k ms c x ≡ 0 → index_from k (ms ++ (d ∷ [])) c x ≡ suc (k + length ms)
unfolding index_from
index_new k [] d c x e z = rw e (let q : suc k ≡ suc (k + 0) = omega arith in q)
index_new k (y ∷ ms) d c x e z = go (is_at y c x) z (index_new (suc k) ms d c x e)
  where
    go : (b : Bool) → pick b (suc k) (index_from (suc k) ms c x) ≡ 0 → (index_from (suc k) ms c x ≡ 0 → index_from (suc k) (ms ++ (d ∷ [])) c x ≡ suc (suc k + length ms))
        → pick b (suc k) (index_from (suc k) (ms ++ (d ∷ [])) c x) ≡ suc (k + suc (length ms))
    go true w ih = absurd (omega arith)
    go false w ih = ih w ∙ (let q : suc (suc k + length ms) ≡ suc (k + suc (length ms)) = omega arith in q)

-- ---- a method's row and index
module _ (cs : List Class) (ms : List Method) (d : Method) (few : length ms < method_count) (owner : d.owner ≤ class_count) (name : d.name < long_size)
    (short : length (method_line d) ≤ line_size) (free : index_from 0 ms d.owner d.name ≡ 0) where
  abbrev new : List Method
  new = ms ++ (d ∷ [])

  abbrev before : List ℕ
  before = filled 0 0 cs ms []

  abbrev after : List ℕ
  after = filled 0 0 cs new []

  -- the place in the index, the row, and the row's bytes
  abbrev x : ℕ
  x = 528 + 256 * d.owner + d.name

  abbrev b : ℕ
  b = 8976 + 256 * length ms

  abbrev row : List ℕ
  row = right_place d ∷ rest (method_line d)

  abbrev inner : List ℕ
  inner = sets (set before x (suc (length ms))) b row

  abbrev written : List ℕ
  written = set inner (b + 255) (length (method_line d))

  row-length : length row ≤ 255
  unfolding method_line
  row-length = short

  -- outside the row and the index's place nothing changes
  outside : (i : ℕ) → (i ≡ x → ⊥) → (b ≤ i → ⊥) → get_or written i 0 ≡ get_or before i 0
  outside i p q =
      get_or-set_other inner (b + 255) i (length (method_line d)) 0 (λ e. q (omega arith))
      ∙ sets_before row (set before x (suc (length ms))) b i (omega arith)
      ∙ get_or-set_other before x i (suc (length ms)) 0 p

  beyond : (i : ℕ) → b + 256 ≤ i → get_or written i 0 ≡ get_or before i 0
  beyond i h =
      let r = row-length in
      get_or-set_other inner (b + 255) i (length (method_line d)) 0 (λ e. omega arith)
      ∙ sets_after row (set before x (suc (length ms))) b i (omega arith)
      ∙ get_or-set_other before x i (suc (length ms)) 0 (λ e. omega arith)

  length-written : length written ≡ 25616
  length-written =
      length-set (sets (set before x (suc (length ms))) b row) (b + 255) (length (method_line d))
      ∙ length-sets (set before x (suc (length ms))) b row
      ∙ length-set before x (suc (length ms))
      ∙ length-filled 0 0 cs ms []

  index_byte : (c y : ℕ) → c ≤ class_count → y < long_size → get_or written (528 + 256 * c + y) 0 ≡ get_or after (528 + 256 * c + y) 0
  index_byte c y h l = go (is_at d c y) refl
    where
      go : (t : Bool) → is_at d c y ≡ t → get_or written (528 + 256 * c + y) 0 ≡ get_or after (528 + 256 * c + y) 0
      go true q =
          let p = and_true (eqb d.owner c) (eqb d.name y) q in
          let ec = eqb-true d.owner c p.0 in
          let ey = eqb-true d.name y p.1 in
          let z : index_from 0 ms c y ≡ 0 = subst (λ (o : ℕ). index_from 0 ms o y ≡ 0) ec (subst (λ (w : ℕ). index_from 0 ms d.owner w ≡ 0) ey free) in
          let e : 528 + 256 * c + y ≡ x = omega arith in
          let f = length-filled 0 0 cs ms [] in
          (rw e (get_or-set_other inner (b + 255) x (length (method_line d)) 0 (λ w. omega arith) ∙ sets_before row (set before x (suc (length ms))) b x (omega arith) ∙ get_or-set_same before x (suc (length ms)) 0 (omega arith)))
          ∙ sym (index_new 0 ms d c y q z ∙ (let w : suc (0 + length ms) ≡ suc (length ms) = omega arith in w))
          ∙ sym (filled_index 0 0 cs new [] c y h l)
      go false q =
          outside (528 + 256 * c + y) (λ e. off q e) (λ w. omega arith)
          ∙ filled_index 0 0 cs ms [] c y h l
          ∙ sym (index_other 0 ms d c y q)
          ∙ sym (filled_index 0 0 cs new [] c y h l)
        where
          off : is_at d c y ≡ false → 528 + 256 * c + y ≡ x → ⊥
          off w e =
              let ec : d.owner ≡ c = omega arith in
              let ey : d.name ≡ y = omega arith in
              let z : is_at d c y ≡ true = rw (eq-eqb d.owner c ec, eq-eqb d.name y ey) in
              let v : true ≡ false = sym z ∙ w in
              let u : ◌≡◌ {A = ℕ} 0 1 = cc in omega arith

  -- byte j of the row of method i
  method_byte_lem : (i j : ℕ) → i < method_count → j < long_size → get_or written (8976 + 256 * i + j) 0 ≡ get_or after (8976 + 256 * i + j) 0
  method_byte_lem i j h l = go (eqb i (length ms)) refl (ltb i (length ms)) refl
    where
      here : get_elem? new (length ms) ≡ some d
      here = at_seam ms d []

      size : length new ≡ suc (length ms)
      size = let e = length-append ms (d ∷ []) in omega arith

      none_yet : get_or before (b + j) 0 ≡ 0
      none_yet = filled_method 0 0 cs ms [] (length ms) j few l ∙ rw (past ms (length ms) (omega arith))

      in_row : (t : Bool) → eqb j 255 ≡ t → (u : Bool) → ltb j (length row) ≡ u → get_or written (b + j) 0 ≡ long_byte (right_place d) (method_line d) j
      in_row true p u q =
          let e = eqb-true j 255 p in
          let f = length-sets (set before x (suc (length ms))) b row ∙ length-set before x (suc (length ms)) ∙ length-filled 0 0 cs ms [] in
          rw (p, e) (get_or-set_same inner (b + 255) (length (method_line d)) 0 (omega arith))
      in_row false p true q =
          let e = eqb-false j 255 p in
          let r = row-length in
          let f = length-set before x (suc (length ms)) ∙ length-filled 0 0 cs ms [] in
          rw p (get_or-set_other inner (b + 255) (b + j) (length (method_line d)) 0 (λ w. e (omega arith))
          ∙ sets_in row (set before x (suc (length ms))) b j (ltb-true j (length row) q) (omega arith))
      in_row false p false q =
          let e = eqb-false j 255 p in
          let g = ltb-false j (length row) q in
          rw p (get_or-set_other inner (b + 255) (b + j) (length (method_line d)) 0 (λ w. e (omega arith))
          ∙ sets_after row (set before x (suc (length ms))) b (b + j) (omega arith)
          ∙ get_or-set_other before x (b + j) (suc (length ms)) 0 (λ w. omega arith)
          ∙ none_yet
          ∙ sym (get_or-eq_default row 0 {n = j} g))

      go : (t : Bool) → eqb i (length ms) ≡ t → (u : Bool) → ltb i (length ms) ≡ u → get_or written (8976 + 256 * i + j) 0 ≡ get_or after (8976 + 256 * i + j) 0
      go true p u q =
          let e = eqb-true i (length ms) p in
          rw e (in_row (eqb j 255) refl (ltb j (length row)) refl ∙ sym (filled_method 0 0 cs new [] (length ms) j few l ∙ rw here))
      go false p true q =
          let g = ltb-true i (length ms) q in
          outside (8976 + 256 * i + j) (λ w. omega arith) (λ w. omega arith)
          ∙ filled_method 0 0 cs ms [] i j h l
          ∙ ap (λ (o : Option Method). method_byte o j) (sym (at_front ms (d ∷ []) i g))
          ∙ sym (filled_method 0 0 cs new [] i j h l)
      go false p false q =
          let g = ltb-false i (length ms) q in
          let e = eqb-false i (length ms) p in
          let o : length ms < i = omega (arith, e) in
          beyond (8976 + 256 * i + j) (omega arith)
          ∙ filled_method 0 0 cs ms [] i j h l
          ∙ ap (λ (z : Option Method). method_byte z j) (past ms i (omega arith) ∙ sym (past new i (let z = size in omega arith)))
          ∙ sym (filled_method 0 0 cs new [] i j h l)

  written_is : written ≡ after
  written_is = agree written after length-written (length-filled 0 0 cs new []) (record {
    classes = λ c j h l. outside (16 * c + j) (λ e. omega arith) (λ w. omega arith) ∙ filled_class 0 0 cs ms [] c j h l ∙ sym (filled_class 0 0 cs new [] c j h l);
    index = index_byte;
    methods = method_byte_lem;
    main = λ j l. beyond (25360 + j) (omega arith) ∙ filled_main 0 0 cs ms [] j l ∙ sym (filled_main 0 0 cs new [] j l);
  })

  pub method_filled : method_put (method_line d) (length ms) (right_place d) (index_put d.owner d.name (length ms + 1) before) ≡ after
  unfolding method_put method_line
  method_filled =
      let e : length ms + 1 ≡ suc (length ms) = omega arith in
      let f : 8976 + 256 * length ms + 1 ≡ suc (8976 + 256 * length ms) = omega arith in
      rw (le-ltb 32 d.owner owner, e, f) written_is
