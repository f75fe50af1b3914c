-- Whether objects fit the places that hold them: what the tests answer, of the objects of block 0 of W and the classes of the table T.
-- Not here: what the tests are in the language (its Batch).
use Rattle.std.specs.Prelude.{ℕ, ◌≤◌, ◌<◌, ◌≡◌, Bool, true, ◌&&◌, List, length}
use Rattle.std.proofs.Math.Option.{some}
use Rattle.std.proofs.Math.ListN.{get_elem?}
use Rattle.cofj.specs.Syntax.{Ty, ty, Table}
use Rattle.cofj.specs.Classes.{fields_of}
use Rattle.cofj.specs.Values.{Ref, obj, node_at, refs_at}
use Rattle.cofj.specs.Formed.{AllIn, Formed}
use Rattle.cofj.specs.Batch.{holds, all_hold, objects_hold}
use Rattle.classes.specs.Layout.{Tabled}
use Rattle.classes.specs.declared.chain.FieldType.{FieldType}
use Rattle.canon.specs.Figures.{first_leaf, first_mark}
use Rattle.canon.specs.Layout.{ref_of, count_in, objects_in, Block}

-- the objects are of the table's classes, with their fields, and hold no mark
pub record Formable (T W : List ℕ) (t : Table) : Type 0 where
  pub table : Tabled T t
  pub formed : AllIn (Formed t 0) (objects_in W 0)

-- the code b is that of one of the objects, or of a leaf
pub record Coded (W : List ℕ) (b : ℕ) : Type 0 where
  pub block : Block W 0
  pub object : b < first_leaf → b < count_in W 0

-- a place of type w and the code b, which is no mark's, whatever number stands beside it
pub record HeldTest (T W : List ℕ) (w : FieldType) (b : ℕ) (r : Bool) : Type 0 where
  pub is : (t : Table) → Formable T W t → b < first_mark → (x : ℕ) → r ≡ holds t.classes (objects_in W 0) (ty w.class w.tag) (ref_of b x)

-- field f of a class and the code b
pub record FieldTest (T W : List ℕ) (class f b : ℕ) (r : Bool) : Type 0 where
  pub is : (t : Table) → Formable T W t → class ≤ length t.classes → b < first_mark → (x : ℕ)
      → (w : Ty) → get_elem? (fields_of t.classes class) f ≡ some w → r ≡ holds t.classes (objects_in W 0) w (ref_of b x)

-- the fields of object i
pub record ObjectTest (T W : List ℕ) (i : ℕ) (r : Bool) : Type 0 where
  pub is : (t : Table) → Formable T W t → r ≡ all_hold t.classes (objects_in W 0) (fields_of t.classes (node_at (objects_in W 0) i).cls) (refs_at (objects_in W 0) i)

-- of them the first n
pub record FieldsHeld (T W : List ℕ) (i n : ℕ) : Type 0 where
  pub at : (t : Table) → Formable T W t → (f : ℕ) (w : Ty) (r : Ref) → f < n → get_elem? (fields_of t.classes (node_at (objects_in W 0) i).cls) f ≡ some w
      → get_elem? (refs_at (objects_in W 0) i) f ≡ some r → holds t.classes (objects_in W 0) w r ≡ true

-- the objects, from object 0 on, at a place of this class and tag 0
pub record ValueTest (T W : List ℕ) (class : ℕ) (r : Bool) : Type 0 where
  pub is : (t : Table) → Formable T W t → r ≡ holds t.classes (objects_in W 0) (ty class 0) (obj 0) && objects_hold t.classes (objects_in W 0) (objects_in W 0)

-- the first n of them
pub record ObjectsHeld (T W : List ℕ) (n : ℕ) : Type 0 where
  pub at : (t : Table) → Formable T W t → (i : ℕ) → i < n → all_hold t.classes (objects_in W 0) (fields_of t.classes (node_at (objects_in W 0) i).cls) (refs_at (objects_in W 0) i) ≡ true
