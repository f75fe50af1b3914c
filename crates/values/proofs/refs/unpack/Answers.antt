-- The value of a number: an object, or what it is else.
use Rattle.values.proofs.RefLaws as laws
use Rattle.values.proofs.refs.unpack.Goals as goal

pub returns-then-k-eq0 : goal.returns-then-k-eq0
returns-then-k-eq0 c = search laws.object_in

pub returns : goal.returns
returns c = search laws.other_in
