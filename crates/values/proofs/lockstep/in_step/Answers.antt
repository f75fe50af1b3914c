-- The proof of `lockstep::in_step`: the objects of the queue and their partners met. By a loop in which capacity - head falls, and the laws of Queues.
use Rattle.std.proofs.Common.{rules}
use Rattle.values.proofs.Queues as laws
use Rattle.values.proofs.lockstep.in_step.Goals as goal

pub step_object-requires : goal.step_object-requires
step_object-requires c = search laws.head_pair

pub returns-in_default : goal.returns-in_default
returns-in_default c = search laws.pairs_differ

pub loop-head-preserved : goal.loop-head-preserved
loop-head-preserved c = (search laws.pairs_few, search rules, search rules, search laws.pairs_more)

pub returns : goal.returns
returns c = search laws.pairs_done
