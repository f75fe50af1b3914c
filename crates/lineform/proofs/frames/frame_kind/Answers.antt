-- `frames::frame_kind` meets its contract: a law of FrameLaws for each return.
use Rattle.lineform.proofs.FrameLaws as laws
use Rattle.lineform.proofs.frames.frame_kind.Goals as goal

pub returns-in_err-first_byte : goal.returns-in_err-first_byte
returns-in_err-first_byte c = rw c.from_residual.ensures (search (laws.frame_empty, c.in_err-first_byte.was))

pub returns-in-1 : goal.returns-in-1
returns-in-1 c = search (laws.frame_class, c.in_ok-first_byte.was)

pub returns-in-2 : goal.returns-in-2
returns-in-2 c = search (laws.frame_method, c.in_ok-first_byte.was)

pub returns-in-3 : goal.returns-in-3
returns-in-3 c = search (laws.frame_main, c.in_ok-first_byte.was)

pub returns-in-4 : goal.returns-in-4
returns-in-4 c = search (laws.frame_input, c.in_ok-first_byte.was)

pub returns-in_default : goal.returns-in_default
returns-in_default c = search (laws.frame_unknown, c.in_ok-first_byte.was)
