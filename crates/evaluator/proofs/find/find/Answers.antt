-- The method that a call names: a law for each return.
use Rattle.evaluator.proofs.FindLaws as laws
use Rattle.std.proofs.Common.{arith}
use Rattle.evaluator.proofs.find.find.Goals as goal

pub returns-in_default : goal.returns-in_default
returns-in_default c = search laws.find_none

pub bounds-work-b : goal.bounds-work-b
bounds-work-b c = omega (arith, laws.object_room _ _ _ _ c.requires c.in-Object.is)

pub returns-then-n-gt3 : goal.returns-then-n-gt3
returns-then-n-gt3 c = search laws.find_many

pub returns : goal.returns
returns c = search laws.find_is
