-- The proof of `lift::part_of`: byte k of an object, turned if it is a code. By the laws of Lifts.
use Rattle.canon.proofs.Lifts as laws
use Rattle.canon.proofs.lift.part_of.Goals as goal

pub returns-then-k-lt-HEAD : goal.returns-then-k-lt-HEAD
returns-then-k-lt-HEAD c = search laws.copy_plain

pub returns-then-k-ge-NUMBERS : goal.returns-then-k-ge-NUMBERS
returns-then-k-ge-NUMBERS c = search laws.copy_rest

pub returns : goal.returns
returns c = search laws.copy_turned
