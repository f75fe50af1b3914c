-- The proof of `parting::part_looks`: parts the classes by the first object that looks alike, to which these links lead. By a loop, and the laws of Parts.
use Rattle.std.proofs.Common.{rules}
use Rattle.canon.proofs.Parts as laws
use Rattle.canon.proofs.parting.part_looks.Goals as goal
use Rattle.canon.proofs.parting.part_looks.Goals.{then-links-v-gt0, else-links-v-gt0}

pub loop-v-preserved : goal.loop-v-preserved
loop-v-preserved c = (
  search rules,
  search rules,
  elim c.if-links-v-gt0.branch [
    | then-links-v-gt0 w ↦ rw (w.t-is, w.m-is) (laws.looks_more _ _ _ _ _ _ _ _ _ c.loop-v.invariant.2 w.mark_into-k.ensures.0 w.split_all-m.ensures)
    | else-links-v-gt0 w ↦ rw (w.t-is, w.m-is) c.loop-v.invariant.2
  ],
)
