-- `exprs::last_sign` meets its contract: a law of SignLaws for each return.
use Rattle.lineform.proofs.SignLaws as laws
use Rattle.lineform.proofs.exprs.last_sign.Goals as goal

pub returns-then-s-at : goal.returns-then-s-at
returns-then-s-at c = search laws.last_end

pub returns-then-s-at-2 : goal.returns-then-s-at-2
returns-then-s-at-2 c = search laws.last_short

pub returns : goal.returns
returns c = search laws.last_is
