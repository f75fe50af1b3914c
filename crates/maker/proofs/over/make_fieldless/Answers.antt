-- A new object without parts.
use Rattle.maker.proofs.Beside as laws
use Rattle.maker.proofs.over.make_fieldless.Goals as goal

pub returns : goal.returns
returns c = search laws.fieldless_new
