-- `write::put_byte` meets its contract: the two stores are `put` of the byte's digits.
use Rattle.lineform.proofs.WriteLaws as laws
use Rattle.lineform.proofs.write.put_byte.Goals as goal

pub returns : goal.returns
returns c = search laws.byte_put
