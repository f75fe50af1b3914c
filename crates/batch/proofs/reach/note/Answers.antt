-- The proof of `reach::note`: a field met: its part is listed then. By the laws of Reaches.
use Rattle.std.proofs.Common.{arith}
use Rattle.batch.proofs.Reaches as laws
use Rattle.batch.proofs.reach.note.Goals as goal

pub returns : goal.returns
returns c = laws.met_new _ _ _ _ c.requires (omega arith) c.if-seen-b.false
