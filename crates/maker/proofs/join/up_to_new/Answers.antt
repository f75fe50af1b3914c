-- The proof of `join::up_to_new`: how many of the first n objects there are up to the last new one. By the laws of Numberings.
use Rattle.std.proofs.Common.{rules}
use Rattle.maker.proofs.Numberings as laws
use Rattle.maker.proofs.join.up_to_new.Goals as goal

pub loop-k-init : goal.loop-k-init
loop-k-init c = (search rules, laws.among_all _ _)

pub loop-k-preserved : goal.loop-k-preserved
loop-k-preserved c = (search rules, search laws.among_less)

pub returns : goal.returns
returns c = search laws.among_none
