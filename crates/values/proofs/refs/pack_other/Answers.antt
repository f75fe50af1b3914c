-- The number of a value that is no object: a law for each case.
use Rattle.values.proofs.RefLaws as laws
use Rattle.values.proofs.refs.pack_other.Goals as goal

pub returns-in-Mark : goal.returns-in-Mark
returns-in-Mark c = search laws.other_mark

pub returns-in-Number : goal.returns-in-Number
returns-in-Number c = search laws.other_number

pub returns-in-Undetermined : goal.returns-in-Undetermined
returns-in-Undetermined c = search laws.other_undetermined
