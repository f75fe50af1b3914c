-- `blocks::is_digit` meets its contract: a law of BlockLaws.
use Rattle.lineform.proofs.BlockLaws as laws
use Rattle.lineform.proofs.blocks.is_digit.Goals as goal

pub returns : goal.returns
returns c = search laws.digit_test
