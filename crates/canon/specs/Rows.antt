-- The rows of parting's tables (src/rows.rt says what stands in them). Not here: what is true of them (Parting, Links).
use Rattle.std.specs.Prelude.{ℕ, List, [], get_or}
use Rattle.canon.specs.declared.rows.Row.{Row}
use Rattle.canon.specs.declared.rows.Link.{Link}

-- a row with nothing in it, and row x of T
abbrev pub blank : Row
blank = record { class = 0; place = 0; object_at = 0; begin = 0; middle = 0; end = 0; note = 0; marked = 0 }

abbrev pub row_at : List Row → ℕ → Row
row_at T x = get_or T x blank

-- the same for links
abbrev pub free : Link
free = record { last = 0; before = 0; target = 0 }

abbrev pub link_at : List Link → ℕ → Link
link_at K x = get_or K x free

-- the links of field f
abbrev pub field_at : List (List Link) → ℕ → List Link
field_at F f = get_or F f []
