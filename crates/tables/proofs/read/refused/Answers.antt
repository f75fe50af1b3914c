-- `read::refused` meets its contract: its zeros are those of `zero_table`.
use Rattle.tables.proofs.ReadLaws as laws
use Rattle.tables.proofs.read.refused.Goals as goal

pub returns : goal.returns
returns c = search laws.refused_is
