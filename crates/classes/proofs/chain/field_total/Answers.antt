-- `chain::field_total` meets its contract: a law of Laws at each return.
use Rattle.classes.proofs.Laws as laws
use Rattle.classes.proofs.chain.field_total.Goals as goal

pub returns-then-c-gt-CLASSES : goal.returns-then-c-gt-CLASSES
returns-then-c-gt-CLASSES c = search laws.total_past

pub returns : goal.returns
returns c = rw c.class_row.ensures (search laws.total_row)
