-- The proof of `parting::mark`: an object brought to the front of its class, and its class noted. By the laws of Fronts and Notes.
use Rattle.std.proofs.Common.{rules}
use Rattle.canon.proofs.Notes as laws
use Rattle.canon.proofs.parting.mark.Goals as goal

pub returns : goal.returns
returns c = (laws.brought_noted _ _ _ _ _ _ _ c.bring.ensures.0, laws.notes_noted _ _ _ _ _ c.bring.ensures.1, search rules)
