-- The proof of `object::root_codes`: the codes of the n parts, and unused ones. By the laws of Finds.
use Rattle.std.proofs.Common.{◌≤◌}
use Rattle.maker.specs.Adding.{RootCodes}
use Rattle.maker.proofs.object.root_codes.Given as goal

abbrev pub invariant-loop-i : goal.invariant-loop-i
invariant-loop-i l = (l.i ≤ l.n) × RootCodes l.work l.parts l.n l.i l.w
