-- The proof of `enter::enter_new`: a new object, which is not among the objects of block host: its number there, if there is room. By the laws of Enters.
use Rattle.maker.proofs.Enters as laws
use Rattle.maker.proofs.enter.enter_new.Goals as goal

pub returns-then-t-ge-CAPACITY : goal.returns-then-t-ge-CAPACITY
returns-then-t-ge-CAPACITY c = search laws.enter_full

pub returns : goal.returns
returns c = search laws.enter_new_lem
