-- The proof of `sort::choose`: of the listed objects of which nothing is known, x one of them, one whose class is rare in the host. By the laws of Sorts.
use Rattle.std.proofs.Common.{◌≤◌}
use Rattle.maker.specs.Sorting.{Listed}
use Rattle.maker.proofs.sort.choose.Given as goal

abbrev pub invariant-loop-q : goal.invariant-loop-q
invariant-loop-q l = (l.q ≤ l.m) × Listed l.list l.m l.best
