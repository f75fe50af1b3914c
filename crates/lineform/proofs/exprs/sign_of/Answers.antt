-- `exprs::sign_of` meets its contract: a law of SignLaws for each return.
use Rattle.lineform.proofs.SignLaws as laws
use Rattle.lineform.proofs.exprs.sign_of.Goals as goal

pub returns-then-g-eq0 : goal.returns-then-g-eq0
returns-then-g-eq0 c = search laws.of_none

pub returns-then-g-gt-PART_COUNT : goal.returns-then-g-gt-PART_COUNT
returns-then-g-gt-PART_COUNT c = search laws.of_over

pub returns : goal.returns
returns c = search laws.of_is
