-- The proof of `sort::varied`: whether nothing is known of a listed object whose class is not that of x. By the laws of Sorts.
use Rattle.std.proofs.Common.{rules}
use Rattle.maker.proofs.Sorts as laws
use Rattle.maker.proofs.sort.varied.Goals as goal

pub bounds-work-src : goal.bounds-work-src
bounds-work-src c = search laws.listed_room

pub bounds-list-q : goal.bounds-list-q
bounds-list-q c = search laws.choose_list

pub overflow_cast-y-in-loop-q : goal.overflow_cast-y-in-loop-q
overflow_cast-y-in-loop-q c = search laws.choose_fits

pub overflow_mul-y : goal.overflow_mul-y
overflow_mul-y c = search (rules, laws.choose_mul)

pub overflow_add-src : goal.overflow_add-src
overflow_add-src c = search (rules, laws.choose_add)

pub bounds-work-src-in-loop-q : goal.bounds-work-src-in-loop-q
bounds-work-src-in-loop-q c = search laws.choose_room

pub is_open-requires : goal.is_open-requires
is_open-requires c = (search laws.choose_told, search laws.choose_marked)
