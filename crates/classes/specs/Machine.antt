-- What the functions answer of a table's bytes B, at the functions' own grain. Not here: that on the bytes of a table that is read these are
-- the language's class fit, fields and lookup (proofs/OnTables).
use Rattle.std.specs.Prelude.{Some, None, ◌≡◌, Bool, true, false, List, ℕ, zero, suc, ◌+◌, ◌-◌, ◌*◌, ◌%◌, ◌<◌, get_or, eqb, leb, ltb}
use Rattle.std.specs.declared.option.Option.{Option}
use Rattle.cofj.specs.Limits.{class_count, method_count}
use Rattle.classes.specs.Figures.{table_size, row_size, long_size, index_at, methods_at, main_at}
use Rattle.classes.specs.declared.chain.FieldType.{FieldType}
use Rattle.classes.specs.declared.methods.Found.{Found}

abbrev pub pick : {A : Type 0} → Bool → A → A → A
pick true a b = a
pick false a b = b

-- the parent of class c, and how many fields it has in all; a class byte that has no row is its own parent and has none
unfoldable pub up : List ℕ → ℕ → ℕ
up B c = pick (ltb class_count c) c (get_or B (row_size * c) 0)

unfoldable pub total_of : List ℕ → ℕ → ℕ
total_of B c = pick (ltb class_count c) 0 (get_or B (row_size * c + 1) 0)

-- d is c or stands above c, at most n steps up
unfoldable pub fits_in : List ℕ → ℕ → ℕ → ℕ → Bool
fits_in B zero c d = eqb c d
fits_in B (suc n) c d = pick (eqb c d) true (pick (leb c (up B c)) false (fits_in B n (up B c) d))

-- the chain of c has at most c steps
abbrev pub fits_of : List ℕ → ℕ → ℕ → Bool
fits_of B c d = fits_in B c c d

abbrev pub type_at : List ℕ → ℕ → FieldType
type_at B at = record { class = get_or B at 0; tag = get_or B (at + 1) 0 }

-- own field j of class c
abbrev pub own_field : List ℕ → ℕ → ℕ → Option FieldType
own_field B c j = pick (leb (get_or B (row_size * c + 2) 0) j) None (Some (type_at B (row_size * c + 3 + 2 * j)))

-- w is the type that stands at r, or none where r is 0
pub record Stored (B : List ℕ) (r : ℕ) (w : Option FieldType) : Type 0 where
  pub same : w ≡ pick (eqb r 0) None (Some (type_at B r))
  pub low : r + 1 < table_size

-- field f of class c, at most n steps up
unfoldable pub field_in : List ℕ → ℕ → ℕ → ℕ → Option FieldType
field_in B zero c f = None
field_in B (suc n) c f =
    pick (leb c (up B c)) None
    (pick (ltb f (total_of B (up B c))) (field_in B n (up B c) f) (own_field B c (f - total_of B (up B c))))

abbrev pub field_of : List ℕ → ℕ → ℕ → Option FieldType
field_of B c f = field_in B c c f

-- a method that is found: its owner, its number
abbrev pub found_at : ℕ → ℕ → Found
found_at o i = record { owner = o; method = i }

-- what a byte of the index says of class c
abbrev pub numbered : ℕ → ℕ → Option Found
numbered c x = pick (eqb x 0) None (Some (found_at c (x - 1)))

-- what class c has itself: the method of this number, if there is one
abbrev pub owned : ℕ → Option ℕ → Option Found
owned c None = None
owned c (Some i) = Some (found_at c i)

-- the method m of class c itself
abbrev pub own_of : List ℕ → ℕ → ℕ → Option Found
own_of B c m = pick (ltb class_count c) None (numbered c (get_or B (index_at + long_size * c + m) 0))

abbrev pub or_else : Option Found → Option Found → Option Found
or_else (Some f) g = Some f
or_else None g = g

-- the method m of class c or of the nearest class above it, at most n steps up: the owner is the class in which the search stops, not what the method's row names
unfoldable pub lookup_in : List ℕ → ℕ → ℕ → ℕ → Option Found
lookup_in B zero c m = own_of B c m
lookup_in B (suc n) c m = or_else (own_of B c m) (pick (leb c (up B c)) None (lookup_in B n (up B c) m))

abbrev pub lookup_of : List ℕ → ℕ → ℕ → Option Found
lookup_of B c m = lookup_in B c c m

-- ---- a method's row
abbrev pub row_of : ℕ → ℕ
row_of i = methods_at + long_size * (i % method_count)

-- a method that was found, if it has n parameters
abbrev pub counted : List ℕ → ℕ → Option Found → Option Found
counted B n (Some f) = pick (eqb (get_or B (row_of f.method + 7) 0) n) (Some f) None
counted B n None = None

-- the method m with n parameters that class c has, its own or the nearest above
unfoldable pub method_with : List ℕ → ℕ → ℕ → ℕ → Option Found
method_with B c m n = counted B n (lookup_of B c m)

abbrev pub param_of : List ℕ → ℕ → ℕ → Option FieldType
param_of B i k =
    pick (ltb 2 k) None (pick (leb (get_or B (row_of i + 7) 0) k) None (Some (type_at B (row_of i + 8 + 2 * k))))

abbrev pub left_of : List ℕ → ℕ → ℕ
left_of B i = row_of i + 8 + 2 * get_or B (row_of i + 7) 0

abbrev pub right_of : List ℕ → ℕ → ℕ
right_of B i = row_of i + get_or B (row_of i) 0

-- ---- main's row
abbrev pub main_place : List ℕ → ℕ
main_place B = main_at + 1 + get_or B main_at 0

abbrev pub input_type : List ℕ → Option FieldType
input_type B = pick (eqb (get_or B main_at 0) 0) None (Some (type_at B (main_at + 1)))
