-- The proof of `parting::note`: notes the objects of class s. By a loop, and the laws of Notes.
use Rattle.std.proofs.Common.{rules}
use Rattle.canon.proofs.Notes as laws
use Rattle.canon.proofs.parting.note.Goals as goal

pub loop-p-preserved : goal.loop-p-preserved
loop-p-preserved c = (search rules, search rules, laws.note_more _ _ _ _ c.loop-p.invariant.2 (laws.place_in _ _ _ _ _ c.requires.0 c.requires.1 c.loop-p-test.true))
