-- The proof of `lift::turn`: a code turned: an object by the table, any other code itself. By the laws of Lifts.
use Rattle.canon.proofs.Lifts as laws
use Rattle.canon.proofs.lift.turn.Goals as goal

pub returns-then-b-lt-FIRST_LEAF : goal.returns-then-b-lt-FIRST_LEAF
returns-then-b-lt-FIRST_LEAF c = search laws.turn_object

pub returns : goal.returns
returns c = search laws.turn_other
