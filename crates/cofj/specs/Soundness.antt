-- Type soundness, stated on trees and on the objects that a report lists. A place of a tree is a path to it. Proved in proofs/Sound and Reached.
-- Document 01: "A place in a run's report is the root, with the type of that program's main, or a field of an object, with the type that
-- field has in the object's class; the undetermined value is allowed there exactly when the tag is 03."
use Rattle.std.specs.Prelude.{ℕ, ◌<◌, ◌≡◌, true, List, [], ◌∷◌, ◌++◌, length}
use Rattle.std.proofs.Math.Option.{Option, none, some}
use Rattle.std.proofs.Math.ListN.{get_elem?}
use Rattle.cofj.specs.Limits.{Limits, number_class}
use Rattle.cofj.specs.Syntax.{Ty, Table}
use Rattle.cofj.specs.Classes.{class_fits, fields_of}
use Rattle.cofj.specs.Values.{Graph, Ref, Leaf, mark, undet, num, node_at, refs_at}
use Rattle.cofj.specs.Unfolding.{Label, object, at_leaf, label_at, follow}
use Rattle.cofj.specs.Running.{Outcome, value, stopped, Stop, stuck, no_fuel, too_deep, too_large, overflow, run_within}
use Rattle.cofj.specs.Typing.{accepted, check}
use Rattle.cofj.specs.Formed.{Good}
use Rattle.cofj.specs.WellFormed.{WellFormed}

-- what may stand at a place of type u in a finished value: an object whose class fits, with its class's fields; no mark; undetermined at tag 3
-- alone; a number where the class is that of numbers
abbrev pub LeafStands : Ty → Leaf → Type 0
LeafStands u (mark k) = ⊥
LeafStands u undet = u.tag ≡ 3
LeafStands u (num n) = u.cls ≡ number_class

abbrev pub Stands : Table → Ty → Label → Type 0
Stands t u (object c n) = (class_fits t.classes c u.cls ≡ true) × (n ≡ length (fields_of t.classes c))
Stands t u (at_leaf l) = LeafStands u l

abbrev pub StandsAt : Table → Ty → Option Label → Type 0
StandsAt t u none = ⊥
StandsAt t u (some l) = Stands t u l

abbrev pub NoMark : Leaf → Type 0
NoMark (mark k) = ⊥
NoMark undet = Unit {0}
NoMark (num n) = Unit {0}

abbrev pub NotOpen : Option Label → Type 0
NotOpen none = Unit {0}
NotOpen (some (object c n)) = Unit {0}
NotOpen (some (at_leaf l)) = NoMark l

-- the value at type u
pub record Sits (t : Table) (u : Ty) (v : Graph) : Type 0 where
  -- the root stands at u
  pub root : StandsAt t u (follow v.nodes v.root [])
  -- every field of every object is there, and stands at the field's type in that object's class
  pub places : (p : List ℕ) (c n f : ℕ) (w : Ty) → follow v.nodes v.root p ≡ some (object c n)
      → get_elem? (fields_of t.classes c) f ≡ some w → StandsAt t w (follow v.nodes v.root (p ++ (f ∷ [])))
  -- no mark stands anywhere
  pub closed : (p : List ℕ) → NotOpen (follow v.nodes v.root p)

abbrev pub NotStuck : Stop → Type 0
NotStuck stuck = ⊥
NotStuck no_fuel = Unit {0}
NotStuck too_deep = Unit {0}
NotStuck too_large = Unit {0}
NotStuck overflow = Unit {0}

abbrev pub Ends : Table → Ty → Outcome Graph → Type 0
Ends t u (value v n) = Sits t u v
Ends t u (stopped l n) = NotStuck l

-- The same of the objects that a report lists, by number: each has its class's fields, and what a field holds stands at the field's type in that class.
pub record Lists (t : Table) (u : Ty) (v : Graph) : Type 0 where
  pub root : Stands t u (label_at v.nodes v.root)
  pub counts : (i : ℕ) → i < length v.nodes → length (refs_at v.nodes i) ≡ length (fields_of t.classes (node_at v.nodes i).cls)
  pub fields : (i f : ℕ) (w : Ty) (r : Ref) → i < length v.nodes → get_elem? (fields_of t.classes (node_at v.nodes i).cls) f ≡ some w
      → get_elem? (refs_at v.nodes i) f ≡ some r → Stands t w (label_at v.nodes r)

abbrev pub EndsListed : Table → Ty → Outcome Graph → Type 0
EndsListed t u (value v n) = Lists t u v
EndsListed t u (stopped l n) = NotStuck l

-- an input that belongs to the table: none for an `03` main; for an `04` main a value, as runs make them, that sits at its parameter's type
pub data Fed (objects : ℕ) (t : Table) : Option Graph → Type 0 where
  unfed : t.input ≡ none → Fed objects t none
  fed : (w : Ty) (v : Graph) → t.input ≡ some w → Sits t w v → Good t objects 0 v → Fed objects t (some v)

-- an accepted program with an input that belongs to it does not get stuck, and its value sits at main's type
unfoldable pub Sound : Type 0
Sound =
    (l : Limits) (t : Table) (i : Option Graph) (u : Ty) (n : ℕ) → WellFormed t → Fed l.objects t i → check t ≡ accepted u → Ends t u (run_within l t i n)

unfoldable pub SoundListed : Type 0
SoundListed =
    (l : Limits) (t : Table) (i : Option Graph) (u : Ty) (n : ℕ) → WellFormed t → Fed l.objects t i → check t ≡ accepted u → EndsListed t u (run_within l t i n)
