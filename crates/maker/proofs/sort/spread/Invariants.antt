-- The proof of `sort::spread`: what leads to a new object marked, until there is nothing more to mark. By the laws of Sorts.
use Rattle.maker.specs.Sorting.{Onward}
use Rattle.maker.proofs.sort.spread.Given as goal

abbrev pub invariant-loop : goal.invariant-loop
invariant-loop l = Onward l.work l.src l.host l.list l.m l.told l.initial.fresh l.told l.fresh
