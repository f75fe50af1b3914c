-- The proof of `enter::lies_from`: whether a code is an object's, of number f or a higher one. By the laws of Enters.
use Rattle.maker.proofs.Enters as laws
use Rattle.maker.proofs.enter.lies_from.Goals as goal

pub returns-then-c-f : goal.returns-then-c-f
returns-then-c-f c = search laws.lies_not

pub returns : goal.returns
returns c = search laws.lies_tested
