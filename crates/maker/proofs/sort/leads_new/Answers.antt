-- The proof of `sort::leads_new`: whether a field of an object is marked as new. By the laws of SortCodes.
use Rattle.maker.proofs.SortCodes as laws
use Rattle.maker.proofs.sort.leads_new.Goals as goal

pub is_new-requires : goal.is_new-requires
is_new-requires c = search laws.code_small

pub returns-then-is_new : goal.returns-then-is_new
returns-then-is_new c = search laws.leads_yes

pub returns : goal.returns
returns c = search laws.leads_no
