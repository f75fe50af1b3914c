-- The proof of `merge::lay_part`: part p as object c. By a loop, and the laws of Layings.
use Rattle.std.proofs.Common.{rules, arith, length-set}
use Rattle.batch.proofs.Layings as laws
use Rattle.batch.proofs.merge.lay_part.Goals as goal

pub loop-j-init : goal.loop-j-init
loop-j-init c = (search rules, search rules, search rules, search laws.part-copied)

pub loop-j-preserved : goal.loop-j-preserved
loop-j-preserved c = (
  search rules,
  search rules,
  simp length-set (omega arith),
  laws.part_more _ _ _ _ _ _ _ _ c.loop-j.invariant.3 c.loop-j.invariant.0 c.loop-j-test.true c.shade.ensures (omega arith),
)

pub returns : goal.returns
returns c = search laws.part_done
