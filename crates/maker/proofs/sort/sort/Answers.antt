-- The proof of `sort::sort`: the listed objects sorted out, from the last to the first. By the laws of Sorts.
use Rattle.std.proofs.Common.{rules}
use Rattle.maker.proofs.Sorts as laws
use Rattle.maker.proofs.sort.sort.Goals as goal

pub loop-q-init : goal.loop-q-init
loop-q-init c = (search rules, search rules, search rules, search laws.sorted_none)

pub bounds-list-q : goal.bounds-list-q
bounds-list-q c = search laws.sort_list

pub is_open-requires : goal.is_open-requires
is_open-requires c = (search laws.sort_told, search laws.sort_marked)

pub settle-requires : goal.settle-requires
settle-requires c = (search laws.sort_sorting, search laws.sort_listed)

pub loop-q-preserved-then-is_open : goal.loop-q-preserved-then-is_open
loop-q-preserved-then-is_open c = (search rules, search rules, search rules, search laws.sorted_more)

pub loop-q-preserved : goal.loop-q-preserved
loop-q-preserved c = (search rules, search rules, search rules, search laws.sorted_known)

pub returns : goal.returns
returns c = search laws.sorted_all
