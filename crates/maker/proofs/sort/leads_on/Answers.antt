-- The proof of `sort::leads_on`: whether a field of an object is another object that is not told. By the laws of SortCodes.
use Rattle.maker.proofs.SortCodes as laws
use Rattle.maker.proofs.sort.leads_on.Goals as goal

pub turn-requires : goal.turn-requires
turn-requires c = search laws.code_small
