-- The verdict line: 00 with class and tag, or the number alone.
use Rattle.engine.proofs.ShowLaws as laws
use Rattle.engine.proofs.show.put_verdict.Goals as goal

pub returns-in-Ok : goal.returns-in-Ok
returns-in-Ok c = search laws.verdict_accepted

pub returns-in-Err : goal.returns-in-Err
returns-in-Err c = search laws.verdict_refused
