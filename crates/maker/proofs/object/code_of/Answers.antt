-- The proof of `object::code_of`: the code of a part: its object's. By the laws of Makes and Finds.
use Rattle.std.proofs.Common.{arith}
use Rattle.maker.proofs.Makes as lays
use Rattle.maker.proofs.Finds as laws
use Rattle.maker.proofs.object.code_of.Goals as goal

pub overflow_add-result : goal.overflow_add-result
overflow_add-result c = omega (arith, lays.mark_small _ _ _ c.requires c.in-Mark.is)

pub returns-in-Object : goal.returns-in-Object
returns-in-Object c = search laws.code_object

pub returns-in-Mark : goal.returns-in-Mark
returns-in-Mark c = search laws.code_mark

pub returns-in-Number : goal.returns-in-Number
returns-in-Number c = search laws.code_number

pub returns-in-Undetermined : goal.returns-in-Undetermined
returns-in-Undetermined c = search laws.code_undet
