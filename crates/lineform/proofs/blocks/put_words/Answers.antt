-- `blocks::put_words` meets its contract: a law of BlockLaws for each way on. The loop keeps the words so far.
use Rattle.std.proofs.Common.{rules, arith}
use Rattle.lineform.proofs.BlockLaws as laws
use Rattle.lineform.proofs.blocks.put_words.Goals as goal

pub loop-k-init : goal.loop-k-init
loop-k-init c = (search rules, search laws.words_none)

pub loop-k-preserved : goal.loop-k-preserved
loop-k-preserved c = (search rules, let h = c.from_le_bytes.ensures in laws.words_next _ _ _ _ _ _ c.loop-k.invariant.1 (omega (arith, h)))
