-- The proof of `number::number_of`: the number of an object of colour c: the colour's place in the order, which the table tells; m if it is not met. By the laws of Numbers.
use Rattle.canon.proofs.Numbers as laws
use Rattle.canon.proofs.number.number_of.Goals as goal

pub returns-then-p-eq0 : goal.returns-then-p-eq0
returns-then-p-eq0 c = search laws.number_not

pub returns : goal.returns
returns c = search laws.number_met
