-- The figures of evaluation, each named once; src/trace.rt and src/spot.rt have the same for the code.
-- Not here: document 01's (the language's Limits), those of a table (crate classes, Figures) and of a block (crate canon, Figures).
use Rattle.std.specs.Prelude.{ℕ}
use Rattle.canon.specs.Figures.{blocks_size}

-- how many calls may be open
abbrev pub call_limit : ℕ
call_limit = 16

-- how many objects a value may have, in a run of document 01
abbrev pub object_limit : ℕ
object_limit = 32

-- every place of a table, and what follows its last expression, lies below
abbrev pub place_limit : ℕ
place_limit = 26000

-- the blocks of a level, and of a call that may still be opened: up to 3 parts are pending a level while the next is evaluated, and 4 when a body is run, from the
-- last level but one. An operand that is a number lies in no block, so sums, differences and choices need none
abbrev pub level_blocks : ℕ
level_blocks = 3

abbrev pub open_blocks : ℕ
open_blocks = 16

-- the block of main's input, after the objects without fields, and the one that main begins at
abbrev pub input_block : ℕ
input_block = 1

abbrev pub main_block : ℕ
main_block = 2

-- what main needs: main_block + open_blocks * call_limit + level_blocks * nesting_limit. So no block from block_limit - 1 on is touched
abbrev pub block_limit : ℕ
block_limit = 276

-- the bytes that the work buffer has at least: these blocks', and those up to the spare one
abbrev pub work_room : ℕ
work_room = blocks_size
