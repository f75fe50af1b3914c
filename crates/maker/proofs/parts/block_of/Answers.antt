-- The block of a value: a law for each return.
use Rattle.maker.proofs.Wheres as laws
use Rattle.maker.proofs.parts.block_of.Goals as goal

pub returns-in_default : goal.returns-in_default
returns-in_default c = search laws.block_leaf

pub returns-then-b-eq0 : goal.returns-then-b-eq0
returns-then-b-eq0 c = search laws.block_zero

pub returns : goal.returns
returns c = search laws.block_object
