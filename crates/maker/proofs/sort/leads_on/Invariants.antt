-- The proof of `sort::leads_on`: whether a field of an object is another object that is not told. By the laws of SortCodes.
use Rattle.std.proofs.Common.{◌≤◌}
use Rattle.canon.specs.Figures.{code_count}
use Rattle.maker.proofs.sort.leads_on.Given as goal

abbrev pub invariant-loop-k : goal.invariant-loop-k
invariant-loop-k l = l.k ≤ code_count
