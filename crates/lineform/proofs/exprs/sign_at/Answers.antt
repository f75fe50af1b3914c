-- `exprs::sign_at` meets its contract: a law of SignLaws for each return.
use Rattle.lineform.proofs.SignLaws as laws
use Rattle.lineform.proofs.exprs.sign_at.Goals as goal

pub sign_of-requires : goal.sign_of-requires
sign_of-requires c = search laws.whole_room

pub returns : goal.returns
returns c = search laws.whole_is
