-- `judge::held` meets its contract: a law of Judges at each return.
use Rattle.batch.proofs.Judges as laws
use Rattle.batch.proofs.judge.held.Goals as goal

pub returns-then-b-eq-NUMBER : goal.returns-then-b-eq-NUMBER
returns-then-b-eq-NUMBER c = search laws.held_number

pub returns-then-b-ge-FIRST_LEAF : goal.returns-then-b-ge-FIRST_LEAF
returns-then-b-ge-FIRST_LEAF c = search laws.held_leaf

pub returns : goal.returns
returns c = search laws.held_object
