-- The proof of `object::root_numbers`: the numbers beside the codes of the n parts. By the laws of Finds.
use Rattle.std.proofs.Common.{rules}
use Rattle.maker.proofs.Finds as laws
use Rattle.maker.proofs.object.root_numbers.Goals as goal

pub loop-i-init : goal.loop-i-init
loop-i-init c = (search rules, laws.numbers_none _ _)

pub loop-i-preserved : goal.loop-i-preserved
loop-i-preserved c = (search rules, search laws.numbers_more)

pub returns : goal.returns
returns c = search laws.numbers_done
