-- The proof of `sort::count_classes`: how many objects of block host are of each class, modulo 64. By the laws of Sorts.
use Rattle.std.proofs.Common.{rules}
use Rattle.maker.proofs.Sorts as laws
use Rattle.maker.proofs.sort.count_classes.Goals as goal

pub loop-y-init : goal.loop-y-init
loop-y-init c = (search rules, search laws.count_small, search rules, search laws.count_none)

pub overflow_add-count : goal.overflow_add-count
overflow_add-count c = search (rules, laws.count_room)

pub loop-y-preserved : goal.loop-y-preserved
loop-y-preserved c = (search rules, search rules, search rules, search laws.count_more)
