-- The proof of `reach::reach`: lists part 0 and what it leads to, nearest first. By a loop in which number_field - head falls, and the laws of Reaches.
use Rattle.std.proofs.Common.{rules}
use Rattle.batch.proofs.Reaches as laws
use Rattle.batch.proofs.reach.reach.Goals as goal

pub loop-head-init : goal.loop-head-init
loop-head-init c = (search rules, search rules, search rules, search laws.reach_start)

pub loop-head-preserved : goal.loop-head-preserved
loop-head-preserved c = (search laws.reach_few, search rules, search rules, search laws.reach_more)
