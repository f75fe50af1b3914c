-- The proof of `merge::import_part`: a value in block host: its code there, if there is room. By the laws of Imported and values' Blocks.
use Rattle.std.proofs.Common.{rules, arith}
use Rattle.values.proofs.Blocks as blocks
use Rattle.maker.proofs.Imported as laws
use Rattle.maker.proofs.merge.import_part.Goals as goal

pub import_object-requires : goal.import_object-requires
import_object-requires c = (search blocks.held_inside, search rules)

pub overflow_add-result : goal.overflow_add-result
overflow_add-result c = omega (arith, laws.part_small _ _ _ _ c.requires.0 c.requires.1 _ c.in-Mark.is)

pub returns-in-Object : goal.returns-in-Object
returns-in-Object c = search laws.part_object

pub returns-in-Mark : goal.returns-in-Mark
returns-in-Mark c = search laws.part_mark

pub returns-in-Number : goal.returns-in-Number
returns-in-Number c = search laws.part_number

pub returns-in-Undetermined : goal.returns-in-Undetermined
returns-in-Undetermined c = search laws.part_undet
