-- The proof of `object::root_codes`: the codes of the n parts, and unused ones. By the laws of Finds.
use Rattle.std.proofs.Common.{rules}
use Rattle.maker.proofs.Finds as laws
use Rattle.maker.proofs.object.root_codes.Goals as goal

pub loop-i-init : goal.loop-i-init
loop-i-init c = (search rules, laws.root_none _ _ _)

pub code_of-requires : goal.code_of-requires
code_of-requires c = search laws.root_held

pub loop-i-preserved : goal.loop-i-preserved
loop-i-preserved c = (search rules, search laws.root_more)

pub returns : goal.returns
returns c = search laws.root_done
