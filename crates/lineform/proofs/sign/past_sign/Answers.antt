-- `sign::past_sign` meets its contract: a law of SignLaws for each need.
use Rattle.lineform.proofs.SignLaws as laws
use Rattle.lineform.proofs.sign.past_sign.Goals as goal

pub returns : goal.returns
returns c = search laws.past_is
