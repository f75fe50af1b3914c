-- `write::put_line` meets its contract: the first byte's digits, the others', and LF, one after another.
use Rattle.std.proofs.Common.{arith}
use Rattle.lineform.proofs.WriteLaws as laws
use Rattle.lineform.proofs.write.put_line.Goals as goal

pub put_bytes-b-requires : goal.put_bytes-b-requires
put_bytes-b-requires c = search laws.rest_room

pub bounds-out-b : goal.bounds-out-b
bounds-out-b c = search laws.end_room

pub overflow_add-result : goal.overflow_add-result
overflow_add-result c = omega (arith, laws.end_room _ _ _ _ _ _ c.put_byte-a.ensures _ _ c.put_bytes-b.ensures c.requires)

pub returns : goal.returns
returns c = search laws.line_put
