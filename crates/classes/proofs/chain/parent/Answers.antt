-- `chain::parent` meets its contract: a law of Laws at each return.
use Rattle.classes.proofs.Laws as laws
use Rattle.classes.proofs.chain.parent.Goals as goal

pub returns-then-c-gt-CLASSES : goal.returns-then-c-gt-CLASSES
returns-then-c-gt-CLASSES c = search laws.parent_past

pub returns : goal.returns
returns c = rw c.class_row.ensures (search laws.parent_row)
