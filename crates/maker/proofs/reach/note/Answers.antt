-- The proof of `reach::note`: a code met: its object is listed then. By the laws of Reaches.
use Rattle.maker.proofs.Reaches as laws
use Rattle.maker.proofs.reach.note.Goals as goal

pub returns-then-c-ge-FIRST_LEAF : goal.returns-then-c-ge-FIRST_LEAF
returns-then-c-ge-FIRST_LEAF c = search laws.met_leaf

pub bounds-seen-c : goal.bounds-seen-c
bounds-seen-c c = search laws.met_entry

pub returns-then-seen-c : goal.returns-then-seen-c
returns-then-seen-c c = search laws.met_known

pub bounds-seen-c-2 : goal.bounds-seen-c-2
bounds-seen-c-2 c = search laws.met_entry

pub bounds-list-tail : goal.bounds-list-tail
bounds-list-tail c = search laws.met_room

pub returns : goal.returns
returns c = search laws.met_new
