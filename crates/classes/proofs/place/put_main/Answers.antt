-- `place::put_main` meets its contract: a law of PlaceLaws at its return.
use Rattle.classes.proofs.PlaceLaws as laws
use Rattle.classes.proofs.place.put_main.Goals as goal

pub returns : goal.returns
returns c = search laws.main_put_lem
