-- The proof of `lines::field_good`: one of the parts, or that the field holds none, by the laws of ReadField.
use Rattle.batch.proofs.ReadField as laws
use Rattle.batch.proofs.lines.field_good.Goals as goal

pub returns-then-b-n : goal.returns-then-b-n
returns-then-b-n c = search laws.field_part

pub returns : goal.returns
returns c = search laws.field_none
