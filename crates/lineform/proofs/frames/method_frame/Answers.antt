-- `frames::method_frame` meets its contract: a law of FrameLaws for each return.
use Rattle.lineform.proofs.FrameLaws as laws
use Rattle.lineform.proofs.frames.method_frame.Goals as goal

pub returns-then-s-le7 : goal.returns-then-s-le7
returns-then-s-le7 c = search laws.method_short

pub returns-then-s-gt-LARGEST_TAG : goal.returns-then-s-gt-LARGEST_TAG
returns-then-s-gt-LARGEST_TAG c = search laws.method_first

pub returns-then-s-gt-LARGEST_TAG-2 : goal.returns-then-s-gt-LARGEST_TAG-2
returns-then-s-gt-LARGEST_TAG-2 c = search laws.method_second

pub returns-then-n-gt-PARAM_COUNT : goal.returns-then-n-gt-PARAM_COUNT
returns-then-n-gt-PARAM_COUNT c = search laws.method_over

pub returns-in_err-a : goal.returns-in_err-a
returns-in_err-a c = rw c.from_residual.ensures (search (laws.method_types, c.in_err-a.was))

pub returns-in_err-b : goal.returns-in_err-b
returns-in_err-b c = rw c.from_residual-in_err-b.ensures (search (laws.method_left, c.in_ok-a.was, c.in_err-b.was))

pub returns-in_err-e : goal.returns-in_err-e
returns-in_err-e c = rw c.from_residual-in_err-e.ensures (search (laws.method_right, c.in_ok-a.was, c.in_ok-b.was, c.in_err-e.was))

pub returns-then-e-s : goal.returns-then-e-s
returns-then-e-s c = search (laws.method_long, c.in_ok-a.was, c.in_ok-b.was, c.in_ok-e.was)

pub returns : goal.returns
returns c = search (laws.method_good_lem, c.in_ok-a.was, c.in_ok-b.was, c.in_ok-e.was)
