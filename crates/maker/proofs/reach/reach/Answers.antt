-- The proof of `reach::reach`: lists object i of block src and what it leads to, nearest first. By a loop in which capacity - head falls, and the laws of Reaches.
use Rattle.std.proofs.Common.{rules}
use Rattle.maker.proofs.Reaches as laws
use Rattle.maker.proofs.reach.reach.Goals as goal

pub loop-head-init : goal.loop-head-init
loop-head-init c = (search rules, search rules, search rules, search laws.reach_start)

pub bounds-list-head : goal.bounds-list-head
bounds-list-head c = search laws.head_read

pub note_fields-tail-requires : goal.note_fields-tail-requires
note_fields-tail-requires c = (search laws.head_inside, search rules)

pub loop-head-preserved : goal.loop-head-preserved
loop-head-preserved c = (search laws.reach_few, search rules, search rules, search laws.reach_more)

pub returns : goal.returns
returns c = search laws.reach_done
