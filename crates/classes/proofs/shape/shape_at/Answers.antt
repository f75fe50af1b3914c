-- `shape::shape_at` meets its contract: a law of ShapeLaws at each return.
use Rattle.classes.proofs.ShapeLaws as laws
use Rattle.classes.proofs.shape.shape_at.Goals as goal

pub returns-then-at : goal.returns-then-at
returns-then-at c = search laws.shape_in

pub returns-then-at-ge-SIZE : goal.returns-then-at-ge-SIZE
returns-then-at-ge-SIZE c = search laws.shape_past

pub returns : goal.returns
returns c = search laws.shape_end
