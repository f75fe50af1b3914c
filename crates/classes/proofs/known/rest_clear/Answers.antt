-- `known::rest_clear` meets its contract: a law of LineLaws for each way on. The loop keeps that the bytes so far are clear.
use Rattle.std.proofs.Common.{rules}
use Rattle.classes.proofs.LineLaws as laws
use Rattle.classes.proofs.known.rest_clear.Goals as goal

pub loop-p-init : goal.loop-p-init
loop-p-init c = (search rules, search rules, search laws.blocks_start)

pub returns-then-names_above : goal.returns-then-names_above
returns-then-names_above c = search (rules, laws.rest_not)

pub loop-p-preserved : goal.loop-p-preserved
loop-p-preserved c = (search rules, search rules, search laws.rest_more)
