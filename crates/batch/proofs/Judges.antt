-- Laws of `judge`: the tests on a block's bytes are the language's tests on its objects.
use Rattle.std.proofs.Common.{ℕ, ◌+◌, ◌*◌, ◌≤◌, ◌<◌, arith, ◌≡◌, refl, sym, ap, ◌∙◌, subst, Bool, true, false, ◌&&◌, not, true≢false, List, [], eqb, length, get_or, eqb-true, Some, None}
use Rattle.std.proofs.Math.Option.{some}
use Rattle.std.proofs.Math.ListN.{get_elem?}
use borrow.Author.Tests.{eqb-false, not-true, not-false}
use Rattle.cofj.specs.Limits.{number_class}
use Rattle.cofj.specs.Syntax.{Ty, ty, Table}
use Rattle.cofj.specs.Classes.{class_fits, fields_of}
use Rattle.cofj.specs.Values.{Ref, obj, leaf, mark, undet, num, node, node_at, refs_at}
use Rattle.cofj.specs.Unfolding.{InRange}
use Rattle.cofj.specs.Formed.{RefBelow, Formed}
use Rattle.cofj.specs.Batch.{holds, all_hold, objects_hold}
use Rattle.cofj.proofs.Basics.{at_some as there}
use Rattle.cofj.proofs.Partial.{true_and}
use Rattle.cofj.proofs.Batch.{hold_at, objects_at, hold_each, hold_objects}
use Rattle.cofj.proofs.GoodValues.{all_at, all_get, formed_default}
use Rattle.classes.specs.declared.chain.FieldType.{FieldType}
use Rattle.std.specs.declared.option.Option.{Option as RustOption}
use Rattle.classes.specs.Machine.{fits_of, field_of}
use Rattle.classes.specs.Layout.{bytes_of, found_type, Tabled}
use Rattle.classes.proofs.OnTables.{class_known, fit_on, field_on}
use Rattle.canon.specs.Figures.{object_size, head_size, code_count, first_leaf, undetermined_code, number_code, first_mark, capacity, block_size, count_at}
use Rattle.canon.specs.Layout.{ref_of, code_of, number_beside, count_in, objects_in, Block, Inside}
use Rattle.canon.proofs.Nodes.{ref_object, ref_undet, ref_number, length_nodes, class_is, count_is, code_is, four_fields, code_low, at_some}
use Rattle.batch.specs.Judging.{Formable, Coded, HeldTest, FieldTest, ObjectTest, FieldsHeld, ValueTest, ObjectsHeld}

-- ---- the block
module _ (W : List ℕ) (b : Block W 0) where
  -- an object's class is that of its node
  class_at : (i : ℕ) → i < count_in W 0 → get_or W (object_size * i) 0 ≡ (node_at (objects_in W 0) i).cls
  unfolding objects_in
  class_at i l = ap (λ (p : ℕ). get_or W p 0) (let z : object_size * i ≡ block_size * 0 + object_size * i = omega arith in z) ∙ class_is W (block_size * 0) (count_in W 0) b.packed i l

objects_count : (W : List ℕ) → length (objects_in W 0) ≡ count_in W 0
unfolding objects_in
objects_count W = length_nodes W (block_size * 0) (count_in W 0)

objects_few : (W : List ℕ) → Block W 0 → length (objects_in W 0) ≤ capacity
objects_few W b = let e = objects_count W in let s = b.small in omega arith

pub held_number : (T W : List ℕ) (w : FieldType) (b : ℕ) → b ≡ number_code → HeldTest T W w b (eqb w.class number_class)
held_number T W w b e =
    record { is = λ t f m x. ap (holds t.classes (objects_in W 0) (ty w.class w.tag)) (sym (ap (λ (c : ℕ). ref_of c x) e ∙ ref_number x)) }

pub held_leaf : (T W : List ℕ) (w : FieldType) (b : ℕ) → ((b ≡ number_code) → ⊥) → first_leaf ≤ b → HeldTest T W w b (eqb w.tag 3)
held_leaf T W w b d l =
    record {
      is = λ t f m x. ap (holds t.classes (objects_in W 0) (ty w.class w.tag)) (sym (ap (λ (c : ℕ). ref_of c x) (let z : b ≡ undetermined_code = omega (arith, d) in z) ∙ ref_undet x));
    }

-- an object of the block is of a class that has a row
known : (T W : List ℕ) (t : Table) → Formable T W t → (i : ℕ) → (node_at (objects_in W 0) i).cls ≤ length t.classes
known T W t f i = (all_at (Formed t 0) (node 0 []) (formed_default t 0) (objects_in W 0) f.formed i).known

fit_table : (T : List ℕ) (t : Table) → Tabled T t → (c d : ℕ) → c ≤ length t.classes → fits_of T c d ≡ class_fits t.classes c d
fit_table T t h c d l = ap (λ (B : List ℕ). fits_of B c d) h.bytes ∙ fit_on t h.formed c d (class_known t c l)

module _ (W : List ℕ) (b : ℕ) (h : Coded W b) (low : b < first_leaf) where
  -- an object's class can be read
  pub coded_room : object_size * b < length W
  coded_room =
      let i = h.object low in
      let s = h.block.small in
      let r = h.block.room in
      omega arith

  pub held_object : (T : List ℕ) (w : FieldType) (c : ℕ) (r : Bool) → c ≡ get_or W (object_size * b) 0 → r ≡ fits_of T c w.class → HeldTest T W w b r
  held_object T w c r e z =
      record {
        is = λ t f m y.
            z
            ∙ ap (λ (x : ℕ). fits_of T x w.class) (e ∙ class_at W h.block b (h.object low))
            ∙ fit_table T t f.table (node_at (objects_in W 0) b).cls w.class (known T W t f b)
            ∙ ap (holds t.classes (objects_in W 0) (ty w.class w.tag)) (sym (ref_object b y low));
      }

-- ---- fields
field_table : (T : List ℕ) (t : Table) → Tabled T t → (c f : ℕ) → field_of T c f ≡ found_type (get_elem? (fields_of t.classes c) f)
field_table T t h c f = ap (λ (B : List ℕ). field_of B c f) h.bytes ∙ field_on t h.formed c f

module _ (T W : List ℕ) (class f b : ℕ) (x : RustOption FieldType) (e : x ≡ field_of T class f) where
  pub field_none : x ≡ None → FieldTest T W class f b false
  field_none n =
      record {
        is = λ t h l m y w q.
            let z : None ≡ Some (bytes_of w) = sym n ∙ e ∙ field_table T t h.table class f ∙ ap found_type q in
            absurd (let v : ◌≡◌ {A = ℕ} 0 1 = cc in omega arith);
      }

  pub field_some : (d : FieldType) (r : Bool) → x ≡ Some d → HeldTest T W d b r → FieldTest T W class f b r
  field_some d r n k =
      record {
        is = λ t h l m y w q.
            let z : Some d ≡ Some (bytes_of w) = sym n ∙ e ∙ field_table T t h.table class f ∙ ap found_type q in
            let u : d ≡ bytes_of w = cc in
            k.is t h m y ∙ ap (λ (v : FieldType). holds t.classes (objects_in W 0) (ty v.class v.tag) (ref_of b y)) u;
      }

-- ---- an object's fields
module _ (W : List ℕ) (i : ℕ) (o : Inside W 0 i) where
  count_at_lem : get_or W (object_size * i + 1) 0 ≡ length (refs_at (objects_in W 0) i)
  unfolding objects_in
  count_at_lem =
      ap (λ (p : ℕ). get_or W p 0) (let z : object_size * i + 1 ≡ block_size * 0 + object_size * i + 1 = omega arith in z) ∙ count_is W (block_size * 0) (count_in W 0) o.block.packed i o.low

  four : length (refs_at (objects_in W 0) i) ≤ code_count
  unfolding objects_in
  four = four_fields W (block_size * 0) (count_in W 0) o.block.packed i o.low

  code_at : (f : ℕ) → f < code_count → get_or W (object_size * i + head_size + f) 0 ≡ code_of (get_or (refs_at (objects_in W 0) i) f (leaf undet))
  unfolding objects_in
  code_at f l =
      ap (λ (p : ℕ). get_or W p 0) (let z : object_size * i + head_size + f ≡ block_size * 0 + object_size * i + head_size + f = omega arith in z)
      ∙ code_is W (block_size * 0) (count_in W 0) o.block.packed i o.low f l

  pub object_room : object_size * i + object_size ≤ length W
  object_room = let s = o.block.small in let r = o.block.room in let l = o.low in omega arith

  pub fields_few : get_or W (object_size * i + 1) 0 ≤ code_count
  fields_few = let e = count_at_lem in let f = four in omega arith

  -- its codes are of objects of the block, or leaves
  pub code_coded : (f : ℕ) → f < get_or W (object_size * i + 1) 0 → Coded W (get_or W (object_size * i + head_size + f) 0)
  unfolding objects_in
  code_coded f l =
      let k : f < code_count = let m = fields_few in omega arith in
      let z : object_size * i + head_size + f ≡ block_size * 0 + object_size * i + head_size + f = omega arith in
      record { block = o.block; object = rw z (code_low W (block_size * 0) (count_in W 0) o.block.packed i o.low o.block.whole f k) }

-- a reference that is no mark is what its code and its number stand for
ref_coded : (n : ℕ) (r : Ref) → n ≤ capacity → InRange n r → RefBelow 0 r → (ref_of (code_of r) (number_beside r) ≡ r) × (code_of r < first_mark)
ref_coded n (obj i) s h m = (ref_object i 0 (omega arith), omega arith)
ref_coded n (leaf (mark k)) s h m = absurd (omega arith)
ref_coded n (leaf undet) s h m = (ref_undet 0, omega arith)
ref_coded n (leaf (num x)) s h m = (ref_number x, omega arith)

module _ (T W : List ℕ) (i : ℕ) (o : Inside W 0 i) where
  -- what the test of field f says of what it holds
  module _ (t : Table) (h : Formable T W t) (f : ℕ) (b : Bool) (k : FieldTest T W (get_or W (object_size * i) 0) f (get_or W (object_size * i + head_size + f) 0) b)
      (w : Ty) (r : Ref) (p : get_elem? (fields_of t.classes (node_at (objects_in W 0) i).cls) f ≡ some w) (q : get_elem? (refs_at (objects_in W 0) i) f ≡ some r) where
    field_says : b ≡ holds t.classes (objects_in W 0) w r
    field_says =
        let a = at_some (refs_at (objects_in W 0) i) f r q in
        let g = four W i o in
        let e : get_or W (object_size * i + head_size + f) 0 ≡ code_of r = code_at W i o f (let z = a.1 in omega arith) ∙ ap code_of a.0 in
        let c = class_at W o.block i o.low in
        let n : length (objects_in W 0) ≤ capacity = objects_few W o.block in
        let y = ref_coded (length (objects_in W 0)) r n (o.block.whole.inner i f r q) (all_get (RefBelow 0) (refs_at (objects_in W 0) i) (all_at (Formed t 0) (node 0 []) (formed_default t 0) (objects_in W 0) h.formed i).leaves f r q) in
        k.is t h (subst (λ (x : ℕ). x ≤ length t.classes) (sym c) (known T W t h i)) (subst (λ (x : ℕ). x < first_mark) (sym e) y.1) (number_beside r) w
        (subst (λ (x : ℕ). get_elem? (fields_of t.classes x) f ≡ some w) (sym c) p)
        ∙ ap (holds t.classes (objects_in W 0) w) (ap (λ (x : ℕ). ref_of x (number_beside r)) e ∙ y.0)

  pub fields_none : FieldsHeld T W i 0
  fields_none = record { at = λ t h f w r l. absurd (omega arith) }

  pub fields_more : (f : ℕ) (b : Bool) → FieldsHeld T W i f → FieldTest T W (get_or W (object_size * i) 0) f (get_or W (object_size * i + head_size + f) 0) b → b ≡ true → FieldsHeld T W i (f + 1)
  fields_more f b h k e =
      record { at = λ t m g w r l p q. go t m g w r p q (eqb g f) refl l }
    where
      go : (t : Table) → Formable T W t → (g : ℕ) (w : Ty) (r : Ref) → get_elem? (fields_of t.classes (node_at (objects_in W 0) i).cls) g ≡ some w → get_elem? (refs_at (objects_in W 0) i) g ≡ some r
          → (x : Bool) → eqb g f ≡ x → g < f + 1 → holds t.classes (objects_in W 0) w r ≡ true
      go t m g w r p q true z l =
          let y = eqb-true g f z in
          sym (field_says t m f b k w r (subst (λ (j : ℕ). get_elem? (fields_of t.classes (node_at (objects_in W 0) i).cls) j ≡ some w) y p) (subst (λ (j : ℕ). get_elem? (refs_at (objects_in W 0) i) j ≡ some r) y q)) ∙ e
      go t m g w r p q false z l = let y = eqb-false g f z in h.at t m g w r (omega arith) p q

  pub object_not : (f : ℕ) (b : Bool) → f < get_or W (object_size * i + 1) 0 → FieldTest T W (get_or W (object_size * i) 0) f (get_or W (object_size * i + head_size + f) 0) b → not b ≡ true → ObjectTest T W i false
  object_not f b l k e = record { is = λ t h. go t h (all_hold t.classes (objects_in W 0) (fields_of t.classes (node_at (objects_in W 0) i).cls) (refs_at (objects_in W 0) i)) refl }
    where
      go : (t : Table) → Formable T W t → (x : Bool) → all_hold t.classes (objects_in W 0) (fields_of t.classes (node_at (objects_in W 0) i).cls) (refs_at (objects_in W 0) i) ≡ x → false ≡ x
      go t h false z = refl
      go t h true z =
          let c = count_at_lem W i o in
          let n = (all_at (Formed t 0) (node 0 []) (formed_default t 0) (objects_in W 0) h.formed i).count in
          let r = there (refs_at (objects_in W 0) i) f (subst (λ (j : ℕ). f < j) c l) in
          let w = there (fields_of t.classes (node_at (objects_in W 0) i).cls) f (subst (λ (j : ℕ). f < j) (c ∙ n) l) in
          sym (not-true b e) ∙ field_says t h f b k w.0 r.0 w.1 r.1
          ∙ hold_at t.classes (objects_in W 0) (fields_of t.classes (node_at (objects_in W 0) i).cls) (refs_at (objects_in W 0) i) z f w.0 r.0 w.1 r.1

  pub object_done : (f : ℕ) → FieldsHeld T W i f → get_or W (object_size * i + 1) 0 ≤ f → ObjectTest T W i true
  object_done f h l =
      record {
        is = λ t m. sym (hold_each t.classes (objects_in W 0) (fields_of t.classes (node_at (objects_in W 0) i).cls) (refs_at (objects_in W 0) i) (λ g w r p q.
            h.at t m g w r (let c = count_at_lem W i o in let z = (at_some (refs_at (objects_in W 0) i) g r q).1 in omega arith) p q));
      }

-- ---- the objects of a value
pub objects_none : (T W : List ℕ) → ObjectsHeld T W 0
objects_none T W = record { at = λ t h i l. absurd (omega arith) }

pub objects_more : (T W : List ℕ) (i : ℕ) (b : Bool) → ObjectsHeld T W i → ObjectTest T W i b → not b ≡ false → ObjectsHeld T W (i + 1)
objects_more T W i b h k e = record { at = λ t m j l. go t m j (eqb j i) refl l }
  where
    go : (t : Table) → Formable T W t → (j : ℕ) (x : Bool) → eqb j i ≡ x → j < i + 1
        → all_hold t.classes (objects_in W 0) (fields_of t.classes (node_at (objects_in W 0) j).cls) (refs_at (objects_in W 0) j) ≡ true
    go t m j true z l = subst (λ (y : ℕ). all_hold t.classes (objects_in W 0) (fields_of t.classes (node_at (objects_in W 0) y).cls) (refs_at (objects_in W 0) y) ≡ true) (sym (eqb-true j i z)) (sym (k.is t m) ∙ not-false b e)
    go t m j false z l = let y = eqb-false j i z in h.at t m j (omega arith)

-- what can be read of the block
module _ (W : List ℕ) (o : Inside W 0 0) where
  pub root_room : 0 < length W
  root_room = let r = o.block.room in omega arith

  pub count_room : count_at < length W
  count_room = let r = o.block.room in omega arith

  pub count_small : get_or W count_at 0 ≤ capacity
  unfolding count_in
  count_small = o.block.small

  pub each_inside : (i : ℕ) → i < get_or W count_at 0 → Inside W 0 i
  unfolding count_in
  each_inside i l = record { block = o.block; low = l }

module _ (T W : List ℕ) (class : ℕ) (o : Inside W 0 0) where
  -- the root
  root_says : (t : Table) → Formable T W t → fits_of T (get_or W 0 0) class ≡ holds t.classes (objects_in W 0) (ty class 0) (obj 0)
  root_says t h = ap (λ (c : ℕ). fits_of T c class) (class_at W o.block 0 o.low) ∙ fit_table T t h.table (node_at (objects_in W 0) 0).cls class (known T W t h 0)

  pub value_root : (b : Bool) → b ≡ fits_of T (get_or W 0 0) class → not b ≡ true → ValueTest T W class false
  value_root b e z = record { is = λ t h. ap (λ (x : Bool). x && objects_hold t.classes (objects_in W 0) (objects_in W 0)) (sym (not-true b z) ∙ e ∙ root_says t h) }

  pub value_not : (i : ℕ) (b : Bool) → i < get_or W count_at 0 → ObjectTest T W i b → not b ≡ true → ValueTest T W class false
  unfolding count_in
  value_not i b l k z = record { is = λ t h. go t h (objects_hold t.classes (objects_in W 0) (objects_in W 0)) refl }
    where
      neither : (x : Bool) → false ≡ x && false
      neither true = refl
      neither false = refl

      go : (t : Table) → Formable T W t → (x : Bool) → objects_hold t.classes (objects_in W 0) (objects_in W 0) ≡ x
          → false ≡ holds t.classes (objects_in W 0) (ty class 0) (obj 0) && x
      go t h false q = neither (holds t.classes (objects_in W 0) (ty class 0) (obj 0))
      go t h true q =
          absurd (true≢false (sym (objects_at t.classes (objects_in W 0) (objects_in W 0) q i (subst (λ (n : ℕ). i < n) (sym (objects_count W)) l)) ∙ sym (k.is t h) ∙ not-true b z))

  pub value_done : (i : ℕ) (b : Bool) → b ≡ fits_of T (get_or W 0 0) class → not b ≡ false → ObjectsHeld T W i → get_or W count_at 0 ≤ i → ValueTest T W class true
  unfolding count_in
  value_done i b e z h l =
      record {
        is = λ t m. sym (true_and (holds t.classes (objects_in W 0) (ty class 0) (obj 0)) (objects_hold t.classes (objects_in W 0) (objects_in W 0)) (sym (sym (not-false b z) ∙ e ∙ root_says t m))
            (hold_objects t.classes (objects_in W 0) (objects_in W 0) (λ j q. h.at t m j (let n = objects_count W in omega arith))));
      }
