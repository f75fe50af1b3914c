-- The proof of `sort::seek_open`: object x looked for in the host, if nothing is known of it. By the laws of Sorts.
use Rattle.maker.proofs.Sorts as laws
use Rattle.maker.proofs.sort.seek_open.Goals as goal

pub is_open-requires : goal.is_open-requires
is_open-requires c = (search laws.listed_told, search laws.listed_marked)

pub seek-requires : goal.seek-requires
seek-requires c = (search laws.listed_inside, search laws.sorting_host, search laws.sorting_sorted, (c.is_open.ensures.yes c.if-is_open.true).0)

pub returns-then-is_open : goal.returns-then-is_open
returns-then-is_open c = search laws.settling_sought

pub returns-else-is_open : goal.returns-else-is_open
returns-else-is_open c = search laws.settling_none
