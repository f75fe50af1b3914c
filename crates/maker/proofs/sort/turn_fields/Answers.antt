-- The proof of `sort::turn_fields`: the codes of object x of block src in the host. By the laws of SortCodes.
use Rattle.std.proofs.Common.{rules}
use Rattle.maker.proofs.SortCodes as laws
use Rattle.maker.proofs.sort.turn_fields.Goals as goal

pub loop-k-init : goal.loop-k-init
loop-k-init c = (search rules, laws.codes_none _ _ _ _)

pub turn-r-requires : goal.turn-r-requires
turn-r-requires c = search laws.code_small_before

pub loop-k-preserved : goal.loop-k-preserved
loop-k-preserved c = (search rules, search laws.codes_more)

pub returns : goal.returns
returns c = search laws.codes_all
