-- `blocks::past_blocks` meets its contract: a law of BlockLaws for each way on. The loop keeps `Blocks`.
use Rattle.std.proofs.Common.{rules}
use Rattle.lineform.proofs.BlockLaws as laws
use Rattle.lineform.proofs.blocks.past_blocks.Goals as goal

pub loop-preserved : goal.loop-preserved
loop-preserved c = (search rules, search rules, search laws.blocks_next)
