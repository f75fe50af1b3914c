-- `write::text_of` meets its contract: a law of WriteLaws for each return.
use Rattle.tables.proofs.WriteLaws as laws
use Rattle.tables.proofs.write.text_of.Goals as goal

pub returns-then-not-reads_back : goal.returns-then-not-reads_back
returns-then-not-reads_back c = search laws.refused_8

pub returns-then-buffer-lt-TEXT : goal.returns-then-buffer-lt-TEXT
returns-then-buffer-lt-TEXT c = search laws.refused_9

pub overflow_cast-result : goal.overflow_cast-result
overflow_cast-result c = search laws.text_fits

pub returns : goal.returns
returns c = search laws.text_put
