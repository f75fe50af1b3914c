-- `hex::Digits::value` meets its contract: what the table is required to hold.
use Rattle.lineform.proofs.HexLaws as laws
use Rattle.lineform.proofs.hex.Digits.value.Goals as goal

pub returns : goal.returns
returns c = rw c.from.ensures (search laws.value_is)
