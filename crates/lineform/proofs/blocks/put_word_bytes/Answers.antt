-- `blocks::put_word_bytes` meets its contract: a law of BlockLaws for each way on. The loop keeps the bytes so far.
use Rattle.std.proofs.Common.{rules, length-set}
use Rattle.lineform.proofs.BlockLaws as laws
use Rattle.lineform.proofs.blocks.put_word_bytes.Goals as goal

pub loop-k-init : goal.loop-k-init
loop-k-init c = (search rules, search rules, search laws.bytes_none)

pub loop-k-preserved : goal.loop-k-preserved
loop-k-preserved c = (search rules, simp length-set (search rules), search laws.bytes_next)
