-- `write::reads_back` meets its contract: the candidate stands in the room, and what is read of it is held against the bytes.
use Rattle.tables.proofs.ReadLaws as reads
use Rattle.tables.proofs.WriteLaws as laws
use Rattle.tables.proofs.write.reads_back.Goals as goal

pub slice_bounds-room-end : goal.slice_bounds-room-end
slice_bounds-room-end c = search laws.text_room

pub slice_bounds-read_into-end : goal.slice_bounds-read_into-end
slice_bounds-read_into-end c = search laws.text_count

pub read_into-requires : goal.read_into-requires
read_into-requires c = search reads.zeros

pub returns-in-Ok : goal.returns-in-Ok
returns-in-Ok c = search laws.reads

pub returns-in-Err : goal.returns-in-Err
returns-in-Err c = search laws.not_read
