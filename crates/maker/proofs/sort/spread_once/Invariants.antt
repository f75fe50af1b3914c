-- The proof of `sort::spread_once`: marks as new the listed objects that lead to a new one at once, from the last to the first. By the laws of Sorts.
use Rattle.std.proofs.Common.{◌≤◌}
use Rattle.maker.specs.Sorting.{Onward}
use Rattle.maker.proofs.sort.spread_once.Given as goal

abbrev pub invariant-loop-q : goal.invariant-loop-q
invariant-loop-q l = (l.q ≤ l.m) × Onward l.work l.src l.host l.list l.m l.told l.initial.fresh l.told l.fresh
