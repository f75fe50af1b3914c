-- The figures of parts in bytes, each named once; src/layout.rt has the same for the code. Not here: document 02's figures (the language's Limits).
use Rattle.std.specs.Prelude.{ℕ, ◌*◌}
use Rattle.canon.specs.Figures.{object_size, code_count}

-- the bytes of a part and how many fields it has room for: as of an object, and head_size, numbers_at and blank_at are canon's
abbrev pub part_size : ℕ
part_size = object_size

abbrev pub field_room : ℕ
field_room = code_count

-- the byte of a field that holds a number, and every lower one is a part's; of one that holds neither
abbrev pub number_field : ℕ
number_field = 254

abbrev pub no_part : ℕ
no_part = 255

-- as many as a byte can number: the length of a table with a byte for each part; the bytes of so many parts
abbrev pub byte_count : ℕ
byte_count = 256

abbrev pub wide_size : ℕ
wide_size = part_size * byte_count
