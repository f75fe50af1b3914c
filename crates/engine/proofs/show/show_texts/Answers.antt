-- Both texts shown: a buffer is too short, or the line of the verdict that their checked run decides.
use Rattle.engine.proofs.ShowLaws as laws
use Rattle.engine.proofs.show.show_texts.Goals as goal

pub returns-in-Err : goal.returns-in-Err
returns-in-Err c = search laws.shown_refused

pub returns-in-Ok : goal.returns-in-Ok
returns-in-Ok c = search laws.shown_ran

pub returns-in-Err-run_ready : goal.returns-in-Err-run_ready
returns-in-Err-run_ready c = search laws.shown_unrun
