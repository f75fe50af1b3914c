-- `blocks::put_blocks` meets its contract: a law of BlockLaws for each call and each return.
use Rattle.lineform.proofs.BlockLaws as laws
use Rattle.lineform.proofs.blocks.put_blocks.Goals as goal

pub returns-then-e-from : goal.returns-then-e-from
returns-then-e-from c = search laws.no_blocks

pub put_word_bytes-requires : goal.put_word_bytes-requires
put_word_bytes-requires c = (search laws.words_good, search laws.pairs_room)

pub returns : goal.returns
returns c = search laws.blocks_put
