-- `blocks::word_byte` meets its contract: a law of BlockLaws for each step that may be too large or below zero, and for the return.
use Rattle.lineform.proofs.BlockLaws as laws
use Rattle.lineform.proofs.blocks.word_byte.Goals as goal

pub overflow_sub-result : goal.overflow_sub-result
overflow_sub-result c = search laws.digits_above

pub overflow_sub-result-2 : goal.overflow_sub-result-2
overflow_sub-result-2 c = search laws.letters_below

pub overflow_cast-result : goal.overflow_cast-result
overflow_cast-result c = search laws.word_fits

pub returns : goal.returns
returns c = search laws.word_byte
