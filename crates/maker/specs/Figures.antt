-- The figures of making, each named once; src/lib.rt has the same for the code.
-- Not here: those of a block (crate canon, Figures).
use Rattle.std.specs.Prelude.{ℕ, ◌+◌}
use Rattle.canon.specs.Figures.{capacity}

-- the number in the host of an object that is not told: no object of a block has it, and no other code is it
abbrev pub not_told : ℕ
not_told = capacity

-- one object more than a block has room for
abbrev pub too_many : ℕ
too_many = capacity + 1

-- the objects of block 0: one without fields of each class from 0 on
abbrev pub preset_count : ℕ
preset_count = 32

-- the four codes of fields that an object does not have, as one number: each is undetermined
abbrev pub unused_codes : ℕ
unused_codes = 3233857728

-- what the number of the fourth field is worth among the numbers of an object, two bytes each, as one number
abbrev pub three_pairs : ℕ
three_pairs = 281474976710656
