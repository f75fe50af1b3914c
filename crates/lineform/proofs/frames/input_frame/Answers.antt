-- `frames::input_frame` meets its contract: a law of FrameLaws for each return.
use Rattle.lineform.proofs.FrameLaws as laws
use Rattle.lineform.proofs.frames.input_frame.Goals as goal

pub returns-then-s-le2 : goal.returns-then-s-le2
returns-then-s-le2 c = search laws.input_short

pub returns-then-s-gt-LARGEST_TAG : goal.returns-then-s-gt-LARGEST_TAG
returns-then-s-gt-LARGEST_TAG c = search laws.input_tag_lem

pub returns : goal.returns
returns c = search laws.input_main
