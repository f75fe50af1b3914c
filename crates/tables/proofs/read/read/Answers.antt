-- `read::read` meets its contract: a law of Written at each return.
use Rattle.tables.proofs.ReadLaws as laws
use Rattle.tables.proofs.Written as written
use Rattle.tables.proofs.read.read.Goals as goal

pub read_into-requires : goal.read_into-requires
read_into-requires c = search laws.zeros

pub returns-in-Err : goal.returns-in-Err
returns-in-Err c = search written.reading_refused

pub returns : goal.returns
returns c = search written.reading_table
