-- The proof of `sort::leads_new`: whether a field of an object is marked as new. By the laws of SortCodes.
use Rattle.std.proofs.Common.{◌≤◌}
use Rattle.canon.specs.Figures.{code_count}
use Rattle.maker.proofs.sort.leads_new.Given as goal

abbrev pub invariant-loop-k : goal.invariant-loop-k
invariant-loop-k l = l.k ≤ code_count
