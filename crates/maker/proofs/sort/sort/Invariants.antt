-- The proof of `sort::sort`: the listed objects sorted out, from the last to the first. By the laws of Sorts.
use Rattle.std.proofs.Common.{◌≤◌, ◌≡◌, length}
use Rattle.maker.specs.Sorting.{SortedFrom}
use Rattle.maker.proofs.sort.sort.Given as goal

abbrev pub invariant-loop-q : goal.invariant-loop-q
invariant-loop-q l =
    (l.q ≤ l.m) × (length l.told ≡ length l.initial.told) × (length l.fresh ≡ length l.initial.fresh)
    × SortedFrom l.work l.src l.host l.list l.m l.q l.told l.fresh
