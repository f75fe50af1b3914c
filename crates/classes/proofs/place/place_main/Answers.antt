-- `place::place_main` meets its contract: a law of PlaceLaws at each return.
use Rattle.classes.proofs.PlaceLaws as laws
use Rattle.classes.proofs.place.place_main.Goals as goal

pub returns-then-not-input_fits : goal.returns-then-not-input_fits
returns-then-not-input_fits c = search laws.main_input

pub returns-then-not-all_known : goal.returns-then-not-all_known
returns-then-not-all_known c = search laws.main_unknown

pub returns : goal.returns
returns c = search laws.main_placed_lem
