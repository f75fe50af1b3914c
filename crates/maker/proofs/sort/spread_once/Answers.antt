-- The proof of `sort::spread_once`: marks as new the listed objects that lead to a new one at once, from the last to the first. By the laws of Sorts.
use Rattle.std.proofs.Common.{rules}
use Rattle.maker.proofs.Sorts as laws
use Rattle.maker.proofs.sort.spread_once.Goals as goal

pub loop-q-init : goal.loop-q-init
loop-q-init c = (search rules, search laws.onward_none)

pub bounds-list-q : goal.bounds-list-q
bounds-list-q c = search laws.onward_list

pub is_open-requires : goal.is_open-requires
is_open-requires c = (search laws.onward_told, search laws.onward_marked)

pub leads_new-requires : goal.leads_new-requires
leads_new-requires c = (search laws.onward_inside, search laws.onward-table)

pub overflow_cast-fresh : goal.overflow_cast-fresh
overflow_cast-fresh c = search (rules, laws.onward-fits)

pub bounds-fresh-x : goal.bounds-fresh-x
bounds-fresh-x c = search laws.onward_marked

pub loop-q-preserved-then-leads_new : goal.loop-q-preserved-then-leads_new
loop-q-preserved-then-leads_new c = (
  search rules,
  laws.onward_lead _ _ _ _ _ _ _ _ c.loop-q.invariant.1 _ c.loop-q-test.true c.loop-q.invariant.0 _ c.leads_new.ensures c.if-leads_new.true,
)

pub loop-q-preserved-else-leads_new : goal.loop-q-preserved-else-leads_new
loop-q-preserved-else-leads_new c = (search rules, search rules)

pub loop-q-preserved : goal.loop-q-preserved
loop-q-preserved c = (search rules, search rules)
