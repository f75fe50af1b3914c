-- `place::place_method` meets its contract: a law of PlaceLaws at each return.
use Rattle.classes.proofs.PlaceLaws as laws
use Rattle.classes.proofs.place.place_method.Goals as goal

pub returns-then-l-lt8 : goal.returns-then-l-lt8
returns-then-l-lt8 c = search laws.method_short

pub returns-then-not-head_good : goal.returns-then-not-head_good
returns-then-not-head_good c = search laws.method_refused

pub returns-then-is_some : goal.returns-then-is_some
returns-then-is_some c = search (laws.method_twice, c.if-is_some.ensures)

pub returns-then-not-bodies_known : goal.returns-then-not-bodies_known
returns-then-not-bodies_known c = search (laws.method_unknown, c.if-is_some.ensures)

pub returns : goal.returns
returns c = let h = rw c.from.ensures at c.put_method.ensures in search (laws.method_placed_lem, c.if-is_some.ensures)
