-- `place::input_fits` meets its contract: a law of PlaceLaws at each return.
use Rattle.classes.proofs.PlaceLaws as laws
use Rattle.classes.proofs.place.input_fits.Goals as goal

pub returns-then-k-eq0 : goal.returns-then-k-eq0
returns-then-k-eq0 c = search laws.input_none

pub returns-then-l-lt3 : goal.returns-then-l-lt3
returns-then-l-lt3 c = search laws.input_short

pub returns-then-n-l : goal.returns-then-n-l
returns-then-n-l c = search laws.input_unknown

pub returns : goal.returns
returns c = search laws.input_tag_lem
