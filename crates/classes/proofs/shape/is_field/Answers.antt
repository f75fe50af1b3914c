-- `shape::is_field` meets its contract: a law of ShapeLaws for each way.
use Rattle.std.proofs.Common.{le-ltb}
use Rattle.classes.proofs.ShapeLaws as laws
use Rattle.classes.proofs.shape.is_field.Goals as goal

pub returns-then-at : goal.returns-then-at
returns-then-at c = search laws.field_here

pub returns-else-at : goal.returns-else-at
returns-else-at c = rw (le-ltb c.args.at 25614 c.if-at.false) (search laws.field_past)
