-- The proof of `links::target_row`: the row that field f of object i leads to; 0 if it leads to none. By the laws of Refers.
use Rattle.canon.proofs.Refers as laws
use Rattle.canon.proofs.links.target_row.Goals as goal

-- a row's number is a byte, since a block has so few objects

pub returns-then-b-lt-FIRST_LEAF : goal.returns-then-b-lt-FIRST_LEAF
returns-then-b-lt-FIRST_LEAF c = search laws.target_object

pub returns : goal.returns
returns c = search laws.target_leaf
