-- The proof of `sort::settle`: an object of the part decided. By the laws of Sorts.
use Rattle.maker.proofs.Sorts as laws
use Rattle.maker.proofs.sort.settle.Goals as goal

pub returns-then-by_fields : goal.returns-then-by_fields
returns-then-by_fields c = search laws.settled_fields

pub returns : goal.returns
returns c = search laws.settled_sought
