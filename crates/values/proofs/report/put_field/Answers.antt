-- The proof of `report::put_field`: a field of the object at a place, at a place of `out`. By the laws of Reports.
use Rattle.std.proofs.Common.{arith}
use Rattle.values.proofs.Reports as laws
use Rattle.values.proofs.report.put_field.Goals as goal

pub put_byte-b-requires : goal.put_byte-b-requires
put_byte-b-requires c = omega (arith, laws.byte_end _ _ _ _ _ c.put_byte-a.ensures)

pub put_byte-requires : goal.put_byte-requires
put_byte-requires c = omega (arith, laws.byte_end _ _ _ _ _ c.put_byte-a.ensures, laws.byte_end _ _ _ _ _ c.put_byte-b.ensures)

pub returns-then-c : goal.returns-then-c
returns-then-c c =
    let a = laws.byte_written _ _ _ _ _ (omega arith) c.put_byte-a.ensures in
    let b = laws.byte_written _ _ _ _ _ (omega (arith, a.end)) c.put_byte-b.ensures in
    let r = laws.byte_written _ _ _ _ _ (omega (arith, a.end, b.end)) c.put_byte.ensures in
    (laws.field_number _ _ _ _ _ _ c.requires.0 c.requires.2 c.if-c.true _ _ _ _ _ a b r, omega (arith, a.end, b.end, r.end))

pub returns-then-c-lt-FIRST_LEAF : goal.returns-then-c-lt-FIRST_LEAF
returns-then-c-lt-FIRST_LEAF c =
    let a = laws.byte_written _ _ _ _ _ (omega arith) c.put_byte-then-c-lt-FIRST_LEAF.ensures in
    (laws.field_object _ _ _ _ _ _ _ c.if-c-lt-FIRST_LEAF.true a, omega (arith, a.end))

pub returns : goal.returns
returns c =
    let a = laws.byte_written _ _ _ _ _ (omega arith) c.put_byte-2.ensures in
    (laws.field_leaf _ _ _ _ _ _ _ c.if-c.false c.if-c-lt-FIRST_LEAF.false a, omega (arith, a.end))
