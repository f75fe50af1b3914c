-- The proof of `lines::spare_fields`. By a loop, and the laws of PutFields.
use Rattle.std.proofs.Common.{arith}
use Rattle.batch.proofs.PutFields as laws
use Rattle.batch.proofs.lines.spare_fields.Goals as goal

pub returns : goal.returns
returns c = laws.spare_done _ _ _ _ _ c.loop-f.invariant.3 (omega arith) c.requires.1 (omega arith)
