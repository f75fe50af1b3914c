-- The value of a number that is no object's: a law for each case.
use Rattle.values.proofs.RefLaws as laws
use Rattle.values.proofs.refs.unpack_other.Goals as goal

pub returns-then-k-eq1 : goal.returns-then-k-eq1
returns-then-k-eq1 c = search laws.other_from_mark

pub returns-then-k-eq3 : goal.returns-then-k-eq3
returns-then-k-eq3 c = search laws.other_from_number

pub returns : goal.returns
returns c = search laws.other_from_none
