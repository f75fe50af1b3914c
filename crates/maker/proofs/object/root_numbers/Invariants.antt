-- The proof of `object::root_numbers`: the numbers beside the codes of the n parts. By the laws of Finds.
use Rattle.std.proofs.Common.{◌≤◌}
use Rattle.maker.specs.Adding.{RootNumbers}
use Rattle.maker.proofs.object.root_numbers.Given as goal

abbrev pub invariant-loop-i : goal.invariant-loop-i
invariant-loop-i l = (l.i ≤ l.n) × RootNumbers l.parts l.n l.i l.v
