-- The proof of `colours::place`: the first object that looks as object i does. By a loop, and the laws of Places.
use Rattle.std.proofs.Common.{rules}
use Rattle.canon.proofs.Places as laws
use Rattle.canon.proofs.colours.place.Goals as goal

pub loop-j-init : goal.loop-j-init
loop-j-init c = (search rules, laws.place_start _ _ _)

pub returns-then-same_object : goal.returns-then-same_object
returns-then-same_object c = search laws.place_found

pub loop-j-preserved : goal.loop-j-preserved
loop-j-preserved c = (search rules, search laws.place_more)

pub returns : goal.returns
returns c = search laws.place_last
