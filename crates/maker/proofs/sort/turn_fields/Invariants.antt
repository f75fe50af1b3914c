-- The proof of `sort::turn_fields`: the codes of object x of block src in the host. By the laws of SortCodes.
use Rattle.std.proofs.Common.{◌≤◌}
use Rattle.canon.specs.Figures.{code_count}
use Rattle.maker.specs.Sorting.{CodesTurned}
use Rattle.maker.proofs.sort.turn_fields.Given as goal

abbrev pub invariant-loop-k : goal.invariant-loop-k
invariant-loop-k l = (l.k ≤ code_count) × CodesTurned l.work l.src l.x l.told l.k l.w
