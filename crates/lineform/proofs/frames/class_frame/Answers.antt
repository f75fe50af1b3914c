-- `frames::class_frame` meets its contract: a law of FrameLaws for each return.
use Rattle.lineform.proofs.FrameLaws as laws
use Rattle.lineform.proofs.frames.class_frame.Goals as goal

pub returns-then-s-le3 : goal.returns-then-s-le3
returns-then-s-le3 c = search laws.class_short

pub returns-then-n-gt-FIELD_COUNT : goal.returns-then-n-gt-FIELD_COUNT
returns-then-n-gt-FIELD_COUNT c = search laws.class_over

pub returns-in_err-e : goal.returns-in_err-e
returns-in_err-e c = rw c.from_residual.ensures (search (laws.class_refused, c.in_err-e.was))

pub returns-then-e-s : goal.returns-then-e-s
returns-then-e-s c = search (laws.class_long, c.in_ok-e.was)

pub returns : goal.returns
returns c = search (laws.class_good_lem, c.in_ok-e.was)
