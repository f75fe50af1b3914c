-- The proof of `merge::bring_parts`: the codes of the n parts in block host. By the laws of Brings.
use Rattle.std.proofs.Common.{rules}
use Rattle.maker.proofs.Brings as laws
use Rattle.maker.proofs.merge.bring_parts.Goals as goal

pub loop-i-init : goal.loop-i-init
loop-i-init c = (search rules, search rules, search laws.brought_start, laws.brought_none _ _ _ _)

pub import_part-requires : goal.import_part-requires
import_part-requires c = (search laws.brought_held, search laws.begun_grown)

pub returns-in_err-r : goal.returns-in_err-r
returns-in_err-r c = let was = c.in_err-r.was in rw c.from_residual.ensures (search laws.brought_fails)

pub loop-i-preserved : goal.loop-i-preserved
loop-i-preserved c = let was = c.in_ok-r.was in (search rules, search rules, search laws.brought_grown, search laws.brought_more)

pub returns : goal.returns
returns c = search laws.brought_all
