-- The proof of `reach::note_fields`: the fields of part p met. By the laws of Reaches.
use Rattle.batch.proofs.Reaches as laws
use Rattle.batch.proofs.reach.note_fields.Goals as goal

pub returns : goal.returns
returns c = laws.fields_met _ _ _ _ _ _ _ _ _ _ _ _ _ _ _ _ _ c.requires.1 c.note-a.ensures c.note-b.ensures c.note-c.ensures c.note.ensures
