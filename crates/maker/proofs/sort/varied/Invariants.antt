-- The proof of `sort::varied`: whether nothing is known of a listed object whose class is not that of x. By the laws of Sorts.
use Rattle.std.proofs.Common.{◌≤◌}
use Rattle.maker.proofs.sort.varied.Given as goal

abbrev pub invariant-loop-q : goal.invariant-loop-q
invariant-loop-q l = l.q ≤ l.m
