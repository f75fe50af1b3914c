-- The figures of blocks, objects, codes and hashes, each named once (docs/VALUES.md); src/layout.rt and src/links.rt have the same for the code.
-- Not here: what stands in the bytes (Layout), document 01's figures (the language's Limits).
use Rattle.std.specs.Prelude.{ℕ, ◌+◌, ◌-◌, ◌*◌}

-- ---- objects
-- the bytes of an object: its head, which is its class and how many fields it has; its codes, one byte each; for each code a number, two bytes, the low one first; two blank bytes
abbrev pub object_size : ℕ
object_size = 16

abbrev pub head_size : ℕ
head_size = 2

abbrev pub code_count : ℕ
code_count = 4

abbrev pub numbers_at : ℕ
numbers_at = head_size + code_count

abbrev pub blank_at : ℕ
blank_at = 14

-- the first code that is no object's; the codes of undetermined, of a number and of the first mark; how many marks have codes
abbrev pub first_leaf : ℕ
first_leaf = 192

abbrev pub undetermined_code : ℕ
undetermined_code = 192

abbrev pub number_code : ℕ
number_code = undetermined_code + 1

abbrev pub first_mark : ℕ
first_mark = number_code + 1

abbrev pub mark_count : ℕ
mark_count = 62

-- ---- blocks
-- how many objects a block has room for, and their bytes; how many a value may have is the run's limit, which is not above it
abbrev pub capacity : ℕ
capacity = 32

abbrev pub objects_size : ℕ
objects_size = object_size * capacity

-- where a block has the number of its objects, its level and its reach; its bytes
abbrev pub count_at : ℕ
count_at = objects_size

abbrev pub level_at : ℕ
level_at = count_at + 1

abbrev pub reach_at : ℕ
reach_at = count_at + 2

abbrev pub block_size : ℕ
block_size = 544

-- how many blocks there are and their bytes; the last is spare: it lies above all that evaluation uses, and parts are brought together there
abbrev pub block_count : ℕ
block_count = 301

abbrev pub blocks_size : ℕ
blocks_size = block_size * block_count

abbrev pub spare_block : ℕ
spare_block = block_count - 1

-- ---- numbers of several bytes
-- what the fourth byte is worth, and the fifth
abbrev pub three_bytes : ℕ
three_bytes = 16777216

abbrev pub four_bytes : ℕ
four_bytes = 4294967296

-- ---- parting
-- how many hashes of looks there are
abbrev pub hash_count : ℕ
hash_count = 32

-- what an object's numbers are divided by for its hash
abbrev pub hashed_by : ℕ
hashed_by = 31
