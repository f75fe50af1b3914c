-- The proof of `enter::refers_from`: whether one of four codes is an object's, of number f or a higher one. By the laws of Enters.
use Rattle.maker.proofs.Enters as laws
use Rattle.maker.proofs.enter.refers_from.Goals as goal

pub returns-then-lies_from : goal.returns-then-lies_from
returns-then-lies_from c = search laws.refers_first

pub returns-then-lies_from-2 : goal.returns-then-lies_from-2
returns-then-lies_from-2 c = search laws.refers_second

pub returns-then-lies_from-3 : goal.returns-then-lies_from-3
returns-then-lies_from-3 c = search laws.refers_third

pub returns : goal.returns
returns c = search laws.refers_last
