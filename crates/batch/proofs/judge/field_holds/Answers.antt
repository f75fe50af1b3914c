-- `judge::field_holds` meets its contract: a law of Judges at each return.
use Rattle.batch.proofs.Judges as laws
use Rattle.batch.proofs.judge.field_holds.Goals as goal

pub returns-in_default : goal.returns-in_default
returns-in_default c = search laws.field_none

pub returns : goal.returns
returns c = search laws.field_some
