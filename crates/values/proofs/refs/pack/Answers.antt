-- The number of a value: a law for each case.
use Rattle.values.proofs.RefLaws as laws
use Rattle.std.proofs.Common.{arith}
use Rattle.values.proofs.refs.pack.Goals as goal

pub returns-in-Object : goal.returns-in-Object
returns-in-Object c = (search laws.pack_object, omega arith)
