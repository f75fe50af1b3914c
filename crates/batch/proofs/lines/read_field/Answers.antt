-- The proof of `lines::read_field`: a law of ReadField at each return.
use Rattle.std.proofs.Common.{◌+◌, arith, refl}
use Rattle.batch.proofs.ReadField as laws
use Rattle.batch.proofs.lines.read_field.Goals as goal

pub returns-then-line-q : goal.returns-then-line-q
returns-then-line-q c = search laws.field_past

pub returns-then-not-field_good : goal.returns-then-not-field_good
returns-then-not-field_good c = search laws.field_bad

pub returns-then-b : goal.returns-then-b
returns-then-b c = search laws.field_one

pub returns-then-line-q-lt3 : goal.returns-then-line-q-lt3
returns-then-line-q-lt3 c = search laws.number_short

pub returns : goal.returns
returns c = laws.field_number _ _ _ _ _ _ _ refl c.if-line-q.false c.if-b.false c.if-line-q-lt3.false _ _ refl refl
    (omega (arith, c.type_inv.line (c.args.q + 1))) (omega (arith, c.type_inv.line (c.args.q + 2))) _ c.put_field-2.ensures c.requires.1
