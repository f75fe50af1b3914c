-- The figures of a table's layout (docs/TABLE.md), each named once; src/places.rt has the same for the code.
-- Not here: how many classes and methods there are at most (the language's Limits).
use Rattle.std.specs.Prelude.{ℕ}

abbrev pub table_size : ℕ
table_size = 25616

-- a class's row, and a row of the index, of a method and of main
abbrev pub row_size : ℕ
row_size = 16

abbrev pub long_size : ℕ
long_size = 256

-- where the index, the methods and main begin
abbrev pub index_at : ℕ
index_at = 528

abbrev pub methods_at : ℕ
methods_at = 8976

abbrev pub main_at : ℕ
main_at = 25360

-- the byte of a long row that has its line's length
abbrev pub last_byte : ℕ
last_byte = 255

-- the counts, in the room of class 0: classes, and methods after it
abbrev pub class_count_at : ℕ
class_count_at = 11

abbrev pub method_count_at : ℕ
method_count_at = 12
