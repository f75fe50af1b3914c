-- The proof of `parting::mark_into`: brings all that refer to object v, by the field of these links, to the fronts of their classes. By a loop in which z falls, and the laws of Marks.
use Rattle.std.proofs.Common.{◌∙◌}
use Rattle.canon.proofs.Marks as laws
use Rattle.canon.proofs.parting.mark_into.Goals as goal

pub loop-z-preserved : goal.loop-z-preserved
loop-z-preserved c = (
  c.mark-j.ensures.0.same ∙ c.loop-z.invariant.0,
  c.mark-j.ensures.2,
  laws.walk_more _ _ _ _ c.requires.1 c.requires.2 c.requires.3 _ _ _ c.loop-z.invariant.2 c.loop-z-test.true _ c.mark-j.ensures.0 c.mark-j.ensures.1,
)
