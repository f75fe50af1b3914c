-- The proof of `sort::is_new`: whether a code is that of an object marked as new. By the laws of SortCodes.
use Rattle.maker.proofs.SortCodes as laws
use Rattle.maker.proofs.sort.is_new.Goals as goal

pub returns-then-c-ge-FIRST_LEAF : goal.returns-then-c-ge-FIRST_LEAF
returns-then-c-ge-FIRST_LEAF c = search laws.new_leaf

pub returns : goal.returns
returns c = search laws.new_marked
