-- `known::block_clear` meets its contract: a law of LineLaws for each way on. The loop keeps what the bytes so far say.
use Rattle.std.proofs.Common.{rules}
use Rattle.classes.proofs.LineLaws as laws
use Rattle.classes.proofs.known.block_clear.Goals as goal

pub loop-k-init : goal.loop-k-init
loop-k-init c = (search rules, search laws.block_start)

pub loop-k-preserved : goal.loop-k-preserved
loop-k-preserved c = (search rules, search laws.block_more)
