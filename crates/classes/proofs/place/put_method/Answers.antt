-- The proof of `place::put_method`. Writes the row of method i. By the laws of PlaceLaws.
use Rattle.classes.proofs.PlaceLaws as laws
use Rattle.classes.proofs.place.put_method.Goals as goal

pub returns : goal.returns
returns c = let h = rw c.from.ensures at c.copy.ensures in rw c.from.ensures (search laws.method_put_lem)
