-- The proof of `colours::colour`: the colours of n objects. By the laws of Classing.
use Rattle.std.proofs.Common.{arith}
use Rattle.canon.proofs.Rounds as rounds
use Rattle.canon.proofs.Classing as laws
use Rattle.canon.proofs.colours.colour.Goals as goal

pub steady-requires : goal.steady-requires
steady-requires c = (laws.raw_codes _ _ c.requires.0, rounds.coarse_below _ _ c.requires.0 _ c.part.ensures (omega arith))

pub returns-then-steady : goal.returns-then-steady
returns-then-steady c = laws.steady_colours _ _ c.requires.0 _ (omega arith) c.part.ensures (c.steady.ensures.yes c.if-steady.true)
