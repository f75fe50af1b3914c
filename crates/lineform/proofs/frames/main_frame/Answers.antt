-- `frames::main_frame` meets its contract: a law of FrameLaws for each return.
use Rattle.lineform.proofs.FrameLaws as laws
use Rattle.lineform.proofs.frames.main_frame.Goals as goal

pub returns-in_err-e : goal.returns-in_err-e
returns-in_err-e c = rw c.from_residual.ensures (search (laws.main_refused, c.in_err-e.was))

pub returns-then-e-s : goal.returns-then-e-s
returns-then-e-s c = search (laws.main_long, c.in_ok-e.was)

pub returns : goal.returns
returns c = search (laws.main_good, c.in_ok-e.was)
