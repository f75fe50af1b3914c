-- The proof of `parts::larger`: the block of v, if v is an object of a block other than 0 and that block has more objects than block b; else b. By the laws of Hosts.
use Rattle.maker.proofs.Hosts as laws
use Rattle.maker.proofs.parts.larger.Goals as goal

pub returns-in_default : goal.returns-in_default
returns-in_default c = search laws.larger_leaf

pub returns-then-x-eq0 : goal.returns-then-x-eq0
returns-then-x-eq0 c = search laws.larger_zero

pub bounds-work-x : goal.bounds-work-x
bounds-work-x c = search laws.larger_read

pub returns-then-work-b : goal.returns-then-work-b
returns-then-work-b c = search laws.larger_other

pub returns : goal.returns
returns c = search laws.larger_same
