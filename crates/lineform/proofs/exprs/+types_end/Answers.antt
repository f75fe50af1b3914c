-- `exprs::types_end` meets its contract: a law of ExprLaws for each return. The count falls.
use Rattle.lineform.proofs.ExprLaws as laws
use Rattle.lineform.proofs.exprs.+types_end.Goals as goal

pub returns-then-n-eq0 : goal.returns-then-n-eq0
returns-then-n-eq0 t c = search laws.types_zero

pub returns-then-s-at : goal.returns-then-s-at
returns-then-s-at t c = search laws.types_end_lem

pub returns-then-s-a1 : goal.returns-then-s-a1
returns-then-s-a1 t c = search laws.types_end2

pub returns-then-s-a1-gt-LARGEST_TAG : goal.returns-then-s-a1-gt-LARGEST_TAG
returns-then-s-a1-gt-LARGEST_TAG t c = search laws.types-over

pub returns : goal.returns
returns t c = search laws.types_next
