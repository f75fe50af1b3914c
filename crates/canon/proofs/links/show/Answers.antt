-- The proof of `links::show`: a code as it looks at first: all objects alike. By the laws of Looks.
use Rattle.canon.proofs.Looks as laws
use Rattle.canon.proofs.links.show.Goals as goal

pub returns-then-b-lt-FIRST_LEAF : goal.returns-then-b-lt-FIRST_LEAF
returns-then-b-lt-FIRST_LEAF c = search laws.show_object

pub returns : goal.returns
returns c = search laws.show_leaf
