-- `write::put_bytes` meets its contract. The loop keeps: the digits of the bytes so far are put, up to w.
use Rattle.std.proofs.Common.{rules}
use Rattle.lineform.proofs.WriteLaws as laws
use Rattle.lineform.proofs.write.put_bytes.Goals as goal

pub loop-b-init : goal.loop-b-init
loop-b-init c = (search rules, search rules, laws.bytes_none _ _)

pub loop-b-preserved : goal.loop-b-preserved
loop-b-preserved c = (search laws.byte_end, search rules, search laws.bytes_more)
