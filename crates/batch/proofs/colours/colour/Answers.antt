-- The proof of `colours::colour`: the colours of the listed parts. By a loop in which capacity - k falls, and the laws of Colourings.
use Rattle.std.proofs.Common.{rules}
use Rattle.batch.proofs.Colourings as laws
use Rattle.batch.proofs.colours.colour.Goals as goal

pub loop-top-init : goal.loop-top-init
loop-top-init c = (
  search rules,
  search rules,
  search rules,
  search rules,
  rw c.copy_from_slice.ensures.after (laws.colour_start _ _ _ c.requires.1 256 _ (search rules)),
)

pub loop-top-preserved : goal.loop-top-preserved
loop-top-preserved c = (
  laws.colour_few _ _ _ c.requires.1 _ _ _ _ _ c.round.ensures _ c.in_ok-top.was,
  search rules,
  search rules,
  search rules,
  rw c.copy_from_slice-in-loop-top.ensures.after (laws.colour_more _ _ _ c.requires.1 _ _ _ _ _ c.round.ensures _ c.in_ok-top.was),
)
