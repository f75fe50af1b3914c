-- The proof of `lockstep::roots_in_step`: whether two objects of two blocks unfold to the same tree. By the laws of Steps.
use Rattle.std.proofs.Common.{rules}
use Rattle.values.proofs.Steps as laws
use Rattle.values.proofs.lockstep.roots_in_step.Goals as goal

pub in_step-requires : goal.in_step-requires
in_step-requires c = (search rules, search rules, search laws.roots_paired)

pub returns : goal.returns
returns c = search laws.roots_in_step_lem
