-- The proof of `colours::round`: the colours of one round more, to `next`. By the laws of Rounds.
use Rattle.std.proofs.Common.{rules, arith}
use Rattle.canon.proofs.Lifts as lifts
use Rattle.canon.proofs.Classing as classing
use Rattle.canon.proofs.Rounds as laws
use Rattle.canon.proofs.colours.round.Goals as goal

pub lift-requires : goal.lift-requires
lift-requires c = (lifts.all_turnable _ _ _ (classing.raw_codes _ _ c.requires.0) c.requires.1.room, search rules)

pub places-requires : goal.places-requires
places-requires c = (search laws.looks_ok, search rules)

pub returns : goal.returns
returns c = laws.round_done _ _ _ _ _ c.requires.0 c.lift.ensures _ c.requires.1 c.places.ensures (omega arith)
