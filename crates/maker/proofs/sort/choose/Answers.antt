-- The proof of `sort::choose`: of the listed objects of which nothing is known, x one of them, one whose class is rare in the host. By the laws of Sorts.
use Rattle.std.proofs.Common.{rules, arith, ◌-◌}
use Rattle.canon.proofs.Zeros.{zero_at}
use Rattle.maker.proofs.Sorts as laws
use Rattle.maker.proofs.sort.choose.Goals as goal

pub count_classes-requires : goal.count_classes-requires
count_classes-requires c = (search laws.sorting_host, search rules, zero_at 64)

pub bounds-list-q : goal.bounds-list-q
bounds-list-q c = search laws.choose_list

pub overflow_cast-n-in-loop-q : goal.overflow_cast-n-in-loop-q
overflow_cast-n-in-loop-q c = omega (arith, c.type_inv.list (c.loop-q.q - 1))

pub overflow_mul-n-in-loop-q : goal.overflow_mul-n-in-loop-q
overflow_mul-n-in-loop-q c = search (rules, laws.choose_mul)

pub overflow_add-n : goal.overflow_add-n
overflow_add-n c = search (rules, laws.choose_add)

pub bounds-work-src : goal.bounds-work-src
bounds-work-src c = search laws.choose_room

pub is_open-requires : goal.is_open-requires
is_open-requires c = (search laws.choose_told, search laws.choose_marked)

pub loop-q-preserved-then-is_open : goal.loop-q-preserved-then-is_open
loop-q-preserved-then-is_open c = (search rules, search laws.choose_listed)
