-- The proof of `chain::field_place`. Where the type of a field stands, inherited ones first. The class falls: the parent is asked, and its number is smaller. By the laws of proofs/Laws.
use Rattle.classes.proofs.Laws as laws
use Rattle.classes.proofs.chain.+field_place.Goals as goal

pub returns-then-c-p : goal.returns-then-c-p
returns-then-c-p t c = search laws.field_none

pub returns-then-f-k : goal.returns-then-f-k
returns-then-f-k t c = search laws.field_up

pub returns : goal.returns
returns t c = search laws.field_own
