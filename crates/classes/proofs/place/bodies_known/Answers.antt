-- `place::bodies_known` meets its contract: what `all_known` ensures, at the place after the types.
use Rattle.classes.proofs.PlaceLaws as laws
use Rattle.classes.proofs.place.bodies_known.Goals as goal

pub returns : goal.returns
returns c = search laws.bodies_scanned
