-- The proof of `parts::some_in`: whether one of the parts is an object of block d. By the laws of Hosts.
use Rattle.std.proofs.Common.{rules, refl}
use Rattle.maker.proofs.Hosts as laws
use Rattle.maker.proofs.parts.some_in.Goals as goal

pub loop-i-init : goal.loop-i-init
loop-i-init c = (search rules, refl)

pub returns-then-lies_in : goal.returns-then-lies_in
returns-then-lies_in c = search laws.some_there

pub loop-i-preserved : goal.loop-i-preserved
loop-i-preserved c = (search rules, search laws.some_less)

pub returns : goal.returns
returns c = search laws.some_none
