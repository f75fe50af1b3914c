-- The proof of `sort::turn`: a code of the part in the host; NOT_TOLD for an object that is not told. By the laws of SortCodes.
use Rattle.maker.proofs.SortCodes as laws
use Rattle.maker.proofs.sort.turn.Goals as goal

pub returns-then-c-ge-FIRST_LEAF : goal.returns-then-c-ge-FIRST_LEAF
returns-then-c-ge-FIRST_LEAF c = search laws.turn_leaf

pub bounds-told-c : goal.bounds-told-c
bounds-told-c c = c.requires c.if-c-ge-FIRST_LEAF.false

pub returns-then-k-eq0 : goal.returns-then-k-eq0
returns-then-k-eq0 c = search laws.turn_none

pub returns : goal.returns
returns c = search laws.turn_told
