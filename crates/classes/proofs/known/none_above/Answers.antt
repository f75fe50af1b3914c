-- `known::none_above` meets its contract: a law of LineLaws for each way on. The loop keeps that the blocks so far are clear.
use Rattle.std.proofs.Common.{rules}
use Rattle.classes.proofs.LineLaws as laws
use Rattle.classes.proofs.known.none_above.Goals as goal

pub loop-p-init : goal.loop-p-init
loop-p-init c = (search rules, search rules, search laws.blocks_start)

pub returns-then-not-block_clear : goal.returns-then-not-block_clear
returns-then-not-block_clear c = search laws.blocks_not

pub loop-p-preserved : goal.loop-p-preserved
loop-p-preserved c = (search rules, search rules, search laws.blocks_more)

pub returns : goal.returns
returns c = search laws.blocks_rest
