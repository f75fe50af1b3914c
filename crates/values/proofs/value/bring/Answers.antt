-- A value brought down: a law for each return.
use Rattle.values.proofs.Copies as copies
use Rattle.values.proofs.value.bring.Goals as goal

pub returns : goal.returns
returns c = search copies.bring_copy
