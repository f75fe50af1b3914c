-- Document 01's figures, each named once. Limits on depth and objects are parameters of the definitions; `standard` has document 01's.
-- Not here: the figures of tags and of bytes in a frame, which stand where the frame is read.
use Rattle.std.specs.Prelude.{ℕ}

-- a text: characters in all, bytes in a line
abbrev pub text_size : ℕ
text_size = 49567

abbrev pub line_size : ℕ
line_size = 255

-- a table
abbrev pub class_count : ℕ
class_count = 32

abbrev pub method_count : ℕ
method_count = 64

abbrev pub field_count : ℕ
field_count = 4

abbrev pub param_count : ℕ
param_count = 3

-- how deep an expression may be nested
abbrev pub nesting_limit : ℕ
nesting_limit = 6

-- numbers: how many there are, from 0 on, and the class byte of their type
abbrev pub number_count : ℕ
number_count = 65536

abbrev pub number_class : ℕ
number_class = 0xFE

-- how many parts the second text of a run may list: the bytes FE and FF are none of them
abbrev pub part_count : ℕ
part_count = 254

-- a second text: characters in all, 33 for each part; more are no list of parts
abbrev pub input_size : ℕ
input_size = 8382

-- lent buffers: refusals 12 and 13
abbrev pub report_size : ℕ
report_size = 1056

abbrev pub work_size : ℕ
work_size = 163840

-- the fuel that `linerun` opens with
abbrev pub linerun_fuel : ℕ
linerun_fuel = 1000

-- so many characters of its input decide what `linerun` writes: both texts, and one character more
abbrev pub linerun_size : ℕ
linerun_size = 57950

-- what a run may use besides its fuel: calls open at once, and distinct objects in a value
pub record Limits : Type 0 where
  pub depth : ℕ
  pub objects : ℕ

abbrev pub standard : Limits
standard = record { depth = 16; objects = 32 }
