-- The proof of `methods::nearest`. The class or the nearest one above it that has a method of the name. The class falls: the parent is asked, and its number is smaller. By the laws of proofs/Laws.
use Rattle.classes.proofs.Laws as laws
use Rattle.classes.proofs.methods.+nearest.Goals as goal

pub returns-then-is_some : goal.returns-then-is_some
returns-then-is_some t c = search (laws.nearest_here, c.if-is_some.ensures)

pub returns-then-c-p : goal.returns-then-c-p
returns-then-c-p t c = search laws.nearest_top

pub returns : goal.returns
returns t c = search (laws.nearest_above, c.if-is_some.ensures)
