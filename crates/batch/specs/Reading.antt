-- What reading a second text answers, of what the language's `parts_of` gives: a field, a line, packed lines, and a text.
-- Not here: how parts lie in bytes (Layout).
use Rattle.std.specs.declared.option.Option.{Option as RustOption}
use Rattle.std.specs.declared.result.Result.{Result}
use Rattle.std.specs.Prelude.{Some, None, Ok, Err, ℕ, ◌+◌, ◌*◌, ◌<◌, ◌≤◌, ◌≡◌, Bool, true, false, List, ◌++◌, length, get_or, drop}
use Rattle.std.proofs.Math.Option.{Option, none, some}
use Rattle.std.proofs.Math.ListN.{get_elem?}
use Rattle.cofj.specs.declared.Refusal.{Refusal}
use Rattle.cofj.specs.declared.Refusal.TheVariants.{BadParts}
use Rattle.cofj.specs.Limits.{part_count}
use Rattle.cofj.specs.Partial.{◌>>=◌, guard}
use Rattle.cofj.specs.Text.{within}
use Rattle.cofj.specs.Syntax.{Class, Table}
use Rattle.cofj.specs.Frames.{got}
use Rattle.cofj.specs.Values.{Ref, Node}
use Rattle.cofj.specs.Unfolding.{InRange}
use Rattle.cofj.specs.Formed.{RefBelow}
use Rattle.cofj.specs.ReportForm.{ref_of, ref_at, refs_of, object_of, objects_from}
use Rattle.cofj.specs.Batch.{part_good, parts_good, parts_of}
use Rattle.lineform.specs.Packed.{unpack}
use Rattle.lineform.specs.Answers.{is_some}
use Rattle.canon.specs.Layout.{number_beside}
use Rattle.classes.specs.Layout.{Tabled}
use Rattle.canon.specs.Figures.{head_size, blank_at}
use Rattle.batch.specs.Figures.{part_size, field_room, no_part}
use Rattle.batch.specs.Layout.{held_byte, FieldLies, Lies}

-- ---- a line's fields
-- the bytes of a line before its fields
abbrev pub front_size : ℕ
front_size = 4

-- a field's byte is one of n parts, or that it holds none
unfoldable pub field_good : ℕ → ℕ → Bool
field_good n b = is_some (ref_of n b)

-- field f of the part at a place holds r, which is one of n parts, none, or a number
pub record Entered (n : ℕ) (P : List ℕ) (at f : ℕ) (r : Ref) : Type 0 where
  pub inner : InRange n r
  pub below : RefBelow 0 r
  pub lies : FieldLies P at f (held_byte r) (number_beside r)

-- the field of the line l at q is put as field f, and the next begins at r; the fields before it and all that lies below are P₀'s
pub record FieldTaken (l : List ℕ) (q n : ℕ) (P₀ : List ℕ) (at f : ℕ) (P : List ℕ) (r : ℕ) : Type 0 where
  pub ref : Ref
  pub is : ref_at n (drop q l) ≡ got ref (drop r l)
  pub more : q < r
  pub within : r ≤ length l
  pub entered : Entered n P at f ref
  pub fields : (g b x : ℕ) → g < f → FieldLies P₀ at g b x → FieldLies P at g b x
  pub below : (j : ℕ) → j < at + head_size → get_or P j 0 ≡ get_or P₀ j 0

-- the answer of `read_field`
pub record FieldRead (l : List ℕ) (q n : ℕ) (P₀ : List ℕ) (at f : ℕ) (P : List ℕ) (o : RustOption ℕ) : Type 0 where
  pub bad : o ≡ None → ref_at n (drop q l) ≡ none
  pub good : (r : ℕ) → o ≡ Some r → FieldTaken l q n P₀ at f P r

-- so are the first f fields of the line, and the next begins at q
pub record FieldsTaken (l : List ℕ) (n : ℕ) (P₀ : List ℕ) (at : ℕ) (P : List ℕ) (f q : ℕ) : Type 0 where
  pub refs : List Ref
  pub count : length refs ≡ f
  pub is : (m : ℕ) → refs_of n (f + m) (drop front_size l) ≡ refs_of n m (drop q l) >>= λ g. got (refs ++ g.item) g.rest
  pub more : front_size ≤ q
  pub within : q ≤ length l
  pub entered : (g : ℕ) (r : Ref) → get_elem? refs g ≡ some r → Entered n P at g r
  pub below : (j : ℕ) → j < at + head_size → get_or P j 0 ≡ get_or P₀ j 0

-- the answer of `read_fields`
pub record FieldsRead (l : List ℕ) (m n : ℕ) (P₀ : List ℕ) (at : ℕ) (P : List ℕ) (o : RustOption ℕ) : Type 0 where
  pub bad : o ≡ None → refs_of n m (drop front_size l) ≡ none
  pub good : (r : ℕ) → o ≡ Some r → FieldsTaken l n P₀ at P m r

-- ---- a line
-- line k of n, as a part of a known class and with its fields
abbrev pub part_of : List Class → ℕ → ℕ → List ℕ → Option Node
part_of cs n k l = object_of n k l >>= λ o. guard (part_good cs o) >>= λ _. some o

-- part k of n lies in P
pub record PartLies (n : ℕ) (P : List ℕ) (k : ℕ) (o : Node) : Type 0 where
  pub class : get_or P (part_size * k) 0 ≡ o.cls
  pub count : get_or P (part_size * k + 1) 0 ≡ length o.refs
  pub low : length o.refs ≤ field_room
  pub field : (f : ℕ) (r : Ref) → get_elem? o.refs f ≡ some r → Entered n P (part_size * k) f r
  pub spare : (f : ℕ) → length o.refs ≤ f → f < field_room → FieldLies P (part_size * k) f no_part 0
  pub blank : (j : ℕ) → blank_at ≤ j → j < part_size → get_or P (part_size * k + j) 0 ≡ 0

-- it lies there, and the parts before it stay
pub record PartRead (n : ℕ) (P₀ : List ℕ) (k : ℕ) (o : Node) (P : List ℕ) : Type 0 where
  pub lies : PartLies n P k o
  pub below : (j : ℕ) → j < part_size * k → get_or P j 0 ≡ get_or P₀ j 0

abbrev pub LineAnswered : Option Node → ℕ → ℕ → List ℕ → List ℕ → Bool → Type 0
LineAnswered none k n P₀ P r = r ≡ false
LineAnswered (some o) k n P₀ P r = (r ≡ true) × PartRead n P₀ k o P

-- the answer of `read_line`
pub record LineRead (T l : List ℕ) (k n : ℕ) (P₀ P : List ℕ) (r : Bool) : Type 0 where
  pub of : (t : Table) → Tabled T t → LineAnswered (part_of t.classes n k l) k n P₀ P r

-- ---- lines
-- how many lines are packed
abbrev pub line_count : List ℕ → ℕ
line_count d = length (unpack d)

-- the answer for these parts, and the bytes that have them
abbrev pub Answered : Option (List Node) → List ℕ → Result ℕ Refusal → Type 0
Answered none P r = r ≡ Err BadParts
Answered (some ns) P r = (r ≡ Ok (length ns)) × Lies P ns

-- the parts that these lines list
unfoldable pub parts_in : List Class → List (List ℕ) → Option (List Node)
unfolding objects_from parts_good
parts_in cs ls =
    guard (within 1 part_count (length ls)) >>= λ _.
    objects_from (length ls) 0 ls >>= λ ns.
    guard (parts_good cs ns) >>= λ _. some ns

-- the answer of `read_lines`; a text has at least one line
pub record LinesRead (T d P : List ℕ) (r : Result ℕ Refusal) : Type 0 where
  pub of : (t : Table) → Tabled T t → 1 ≤ line_count d → Answered (parts_in t.classes (unpack d)) P r

-- the parts of the text S by the table T, in P
pub record TextRead (T S P : List ℕ) (r : Result ℕ Refusal) : Type 0 where
  pub of : (t : Table) → Tabled T t → Answered (parts_of t.classes S) P r
