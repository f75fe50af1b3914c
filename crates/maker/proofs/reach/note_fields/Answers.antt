-- The proof of `reach::note_fields`: the codes of object x of block src met. By the laws of Reaches.
use Rattle.std.proofs.Common.{rules, arith}
use Rattle.maker.proofs.Reaches as laws
use Rattle.maker.proofs.reach.note_fields.Goals as goal

pub note-a-requires : goal.note-a-requires
note-a-requires c = (search rules, laws.field_low _ _ _ c.requires.0 0 _ (omega arith) (omega arith))

pub note-b-requires : goal.note-b-requires
note-b-requires c = (search rules, laws.field_low _ _ _ c.requires.0 1 _ (omega arith) (omega arith))

pub note-c-requires : goal.note-c-requires
note-c-requires c = (search rules, laws.field_low _ _ _ c.requires.0 2 _ (omega arith) (omega arith))

pub note-requires : goal.note-requires
note-requires c = (search rules, laws.field_low _ _ _ c.requires.0 3 _ (omega arith) (omega arith))

pub returns : goal.returns
returns c = laws.fields_met _ _ _ c.requires.0 _ _ _ _ _ _ _ _ _ _ _ _ _ _ _ c.requires.1 c.note-a.ensures c.note-b.ensures c.note-c.ensures c.note.ensures
