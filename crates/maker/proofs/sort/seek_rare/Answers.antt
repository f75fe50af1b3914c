-- The proof of `sort::seek_rare`: one of a rare class looked for, if x leads to another that is not told. By the laws of Sorts.
use Rattle.maker.proofs.Sorts as laws
use Rattle.maker.proofs.sort.seek_rare.Goals as goal

pub leads_on-requires : goal.leads_on-requires
leads_on-requires c = (search laws.listed_inside, search laws.sorting_told)

pub returns-then-not-leads_on : goal.returns-then-not-leads_on
returns-then-not-leads_on c = search laws.onward_none
