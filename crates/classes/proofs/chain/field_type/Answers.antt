-- The proof of `chain::field_type`. The type of field f of class c. By the laws of proofs/Laws.
use Rattle.classes.proofs.Laws as laws
use Rattle.classes.proofs.chain.field_type.Goals as goal

pub returns-then-at-eq0 : goal.returns-then-at-eq0
returns-then-at-eq0 c = search laws.stored_none

pub returns : goal.returns
returns c = rw c.type_at.ensures (search laws.stored_at)
