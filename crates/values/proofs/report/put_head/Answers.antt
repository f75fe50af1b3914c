-- The proof of `report::put_head`: what stands before the fields in an object's line. By the laws of Reports.
use Rattle.std.proofs.Common.{arith}
use Rattle.values.proofs.Reports as laws
use Rattle.values.proofs.report.put_head.Goals as goal

pub put_byte-b-requires : goal.put_byte-b-requires
put_byte-b-requires c = omega (arith, laws.byte_end _ _ _ _ _ c.put_byte-a.ensures)

pub put_byte-c-requires : goal.put_byte-c-requires
put_byte-c-requires c = omega (arith, laws.byte_end _ _ _ _ _ c.put_byte-a.ensures, laws.byte_end _ _ _ _ _ c.put_byte-b.ensures)

pub put_byte-requires : goal.put_byte-requires
put_byte-requires c = omega (arith, laws.byte_end _ _ _ _ _ c.put_byte-a.ensures, laws.byte_end _ _ _ _ _ c.put_byte-b.ensures, laws.byte_end _ _ _ _ _ c.put_byte-c.ensures)

pub returns : goal.returns
returns c =
    let a = laws.byte_written _ _ _ _ _ (omega arith) c.put_byte-a.ensures in
    let b = laws.byte_written _ _ _ _ _ (omega (arith, a.end)) c.put_byte-b.ensures in
    let h = laws.byte_written _ _ _ _ _ (omega (arith, a.end, b.end)) c.put_byte-c.ensures in
    let r = laws.byte_written _ _ _ _ _ (omega (arith, a.end, b.end, h.end)) c.put_byte.ensures in
    (laws.head_written _ _ _ _ _ _ _ _ _ _ _ _ _ a b h r, omega (arith, a.end, b.end, h.end, r.end))
