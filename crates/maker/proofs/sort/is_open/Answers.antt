-- The proof of `sort::is_open`: whether nothing is known of object x. By the laws of SortCodes.
use Rattle.maker.proofs.SortCodes as laws
use Rattle.maker.proofs.sort.is_open.Goals as goal

pub returns-then-told-x-ne0 : goal.returns-then-told-x-ne0
returns-then-told-x-ne0 c = search laws.open_told

pub returns : goal.returns
returns c = search laws.open_marked
