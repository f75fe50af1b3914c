-- `blocks::all_digits` meets its contract: a law of BlockLaws for each way on. The loop keeps that the characters so far are digits.
use Rattle.std.proofs.Common.{rules}
use Rattle.lineform.proofs.BlockLaws as laws
use Rattle.lineform.proofs.blocks.all_digits.Goals as goal

pub loop-k-init : goal.loop-k-init
loop-k-init c = (search rules, search laws.all_none)

pub loop-k-preserved : goal.loop-k-preserved
loop-k-preserved c = (search rules, search laws.all_next)
