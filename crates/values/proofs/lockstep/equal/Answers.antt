-- The proof of `lockstep::equal`: whether two references stand for one value. By the laws of Blocks and Steps.
use Rattle.values.proofs.Steps as laws
use Rattle.values.proofs.lockstep.equal.Goals as goal

pub returns-in-Mark-Mark : goal.returns-in-Mark-Mark
returns-in-Mark-Mark c = search laws.mark_mark

pub returns-in-Number-Number : goal.returns-in-Number-Number
returns-in-Number-Number c = search laws.number_number

pub returns-in-Undetermined-Undetermined : goal.returns-in-Undetermined-Undetermined
returns-in-Undetermined-Undetermined c = search laws.undetermined_both

pub returns-in_default : goal.returns-in_default
returns-in_default c = search laws.object_other

pub returns-in_default-2 : goal.returns-in_default-2
returns-in_default-2 c = search laws.mark_other

pub returns-in_default-3 : goal.returns-in_default-3
returns-in_default-3 c = search laws.number_other

pub returns-in_default-4 : goal.returns-in_default-4
returns-in_default-4 c = search laws.undetermined_other
