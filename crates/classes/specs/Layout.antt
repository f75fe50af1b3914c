-- The bytes of a class table (docs/TABLE.md). Not here: its figures (Figures); what the functions answer of them (Machine).
use Rattle.std.specs.Prelude.{Some, None, ℕ, zero, suc, ◌+◌, ◌-◌, ◌*◌, ◌/◌, ◌%◌, ◌<◌, ◌≡◌, ◌&&◌, List, [], ◌∷◌, ◌++◌, eqb, ltb, length, get_or}
use Rattle.std.specs.declared.option.Option.{Option as RustOption}
use Rattle.std.proofs.Math.Option.{Option, none, some}
use Rattle.std.proofs.Math.ListN.{get_elem?}
use Rattle.cofj.specs.Syntax.{Ty, Class, Method, Table}
use Rattle.cofj.specs.Classes.{parent_of, class_at, own_or_none, fields_of}
use Rattle.cofj.specs.Lookup as language
use Rattle.cofj.specs.Writing.{code_of, types_bytes, method_line, main_line}
use Rattle.cofj.specs.WellFormed.{WellFormed}
use Rattle.classes.specs.declared.chain.FieldType.{FieldType}
use Rattle.classes.specs.declared.methods.Found.{Found}
use Rattle.classes.specs.Figures.{row_size, long_size, index_at, methods_at, main_at, last_byte, table_size, class_count_at}
use Rattle.classes.specs.Machine.{pick, found_at}

-- ---- rows; what follows in a row is zero
abbrev pub zeros : ℕ → List ℕ
zeros zero = []
zeros (suc k) = 0 ∷ zeros k

-- the row of class c: Object's has the two counts
abbrev pub class_row : ℕ → ℕ → List Class → ℕ → List ℕ
class_row n m cs zero = zeros class_count_at ++ (n ∷ m ∷ [])
class_row n m cs (suc k) =
    parent_of cs (suc k) ∷ length (fields_of cs (suc k)) ∷ length (own_or_none (class_at cs (suc k))) ∷ types_bytes (own_or_none (class_at cs (suc k)))

-- 1 + the number of the first method with the owner c and the name m, where the first of the list has the number k; or 0
unfoldable pub index_from : ℕ → List Method → ℕ → ℕ → ℕ
index_from k [] c m = 0
index_from k (d ∷ ds) c m = pick (eqb d.owner c && eqb d.name m) (suc k) (index_from (suc k) ds c m)

-- a line's bytes after the first
abbrev pub rest : List ℕ → List ℕ
rest [] = []
rest (b ∷ bs) = bs

-- where the right expression stands in a method's row
unfoldable pub right_place : Method → ℕ
right_place d = 8 + 2 * length d.params + length (code_of d.left)

-- byte j of a long row that begins with p and goes on with the line l after its first byte
abbrev pub long_byte : ℕ → List ℕ → ℕ → ℕ
long_byte p l j = pick (eqb j last_byte) (length l) (get_or (p ∷ rest l) j 0)

abbrev pub method_byte : Option Method → ℕ → ℕ
method_byte none j = 0
method_byte (some d) j = long_byte (right_place d) (method_line d) j

-- how many bytes stand between the first byte of main's line and its expression: the type of its parameter, if it has one
abbrev pub input_size : Option Ty → ℕ
input_size none = 0
input_size (some u) = 2

-- the same of a line
abbrev pub ahead_of : List ℕ → ℕ
ahead_of l = pick (eqb (get_or l 0 0) 4) 2 0

-- ---- the bytes
-- byte i, with the counts n and m, these classes, these methods, and this line of main
unfoldable pub byte_of : ℕ → ℕ → List Class → List Method → List ℕ → ℕ → ℕ
byte_of n m cs ms l i =
    pick (ltb i index_at) (get_or (class_row n m cs (i / row_size)) (i % row_size) 0)
    (pick (ltb i methods_at) (index_from 0 ms ((i - index_at) / long_size) ((i - index_at) % long_size))
    (pick (ltb i main_at) (method_byte (get_elem? ms ((i - methods_at) / long_size)) ((i - methods_at) % long_size)) (long_byte (ahead_of l) l (i - main_at))))

unfoldable pub tabulate : ℕ → (ℕ → ℕ) → List ℕ
tabulate zero f = []
tabulate (suc n) f = f 0 ∷ tabulate n (λ k. f (suc k))

-- a table that is being filled
unfoldable pub filled : ℕ → ℕ → List Class → List Method → List ℕ → List ℕ
filled n m cs ms l = tabulate table_size (byte_of n m cs ms l)

abbrev pub byte_at : Table → ℕ → ℕ
byte_at t i = byte_of (length t.classes) (length t.methods) t.classes t.methods (main_line t.input t.main) i

unfoldable pub layout : Table → List ℕ
layout t = filled (length t.classes) (length t.methods) t.classes t.methods (main_line t.input t.main)

-- a type as two bytes
abbrev pub bytes_of : Ty → FieldType
bytes_of u = record { class = u.cls; tag = u.tag }

-- ---- the bytes `code` stand in B from the place `at` on
pub record Stands (B : List ℕ) (at : ℕ) (code : List ℕ) : Type 0 where
  pub byte : (k : ℕ) → k < length code → get_or B (at + k) 0 ≡ get_or code k 0

-- the bytes T are those of a table that was read
pub record Tabled (T : List ℕ) (t : Table) : Type 0 where
  pub formed : WellFormed t
  pub bytes : T ≡ layout t

-- ---- what a lookup finds, in bytes and in the language
pub data Finds (ds : List Method) : RustOption Found → Option language.Found → Type 0 where
  at : {o i : ℕ} {d : Method} → get_elem? ds i ≡ some d → Finds ds (Some (found_at o i)) (some (language.found_in o d))
  nothing : Finds ds None none

abbrev pub found_type : Option Ty → RustOption FieldType
found_type none = None
found_type (some u) = Some (bytes_of u)
