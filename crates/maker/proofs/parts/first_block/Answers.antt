-- The first block of a part: the parts before have none.
use Rattle.std.proofs.Common.{rules}
use Rattle.maker.proofs.Wheres as laws
use Rattle.maker.proofs.parts.first_block.Goals as goal

pub loop-i-init : goal.loop-i-init
loop-i-init c = (search rules, laws.first_none _)

pub returns-in-Some : goal.returns-in-Some
returns-in-Some c = search laws.first_found

pub loop-i-preserved : goal.loop-i-preserved
loop-i-preserved c = (search rules, search laws.first_more)

pub returns : goal.returns
returns c = search laws.first_end
