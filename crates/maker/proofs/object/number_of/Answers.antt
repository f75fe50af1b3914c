-- The proof of `object::number_of`: the number beside the code of a part. By the laws of Finds.
use Rattle.maker.proofs.Finds as laws
use Rattle.maker.proofs.object.number_of.Goals as goal

pub returns-in-Object : goal.returns-in-Object
returns-in-Object c = search laws.beside_object

pub returns-in-Mark : goal.returns-in-Mark
returns-in-Mark c = search laws.beside_mark

pub returns-in-Number : goal.returns-in-Number
returns-in-Number c = search laws.beside_number

pub returns-in-Undetermined : goal.returns-in-Undetermined
returns-in-Undetermined c = search laws.beside_undet
