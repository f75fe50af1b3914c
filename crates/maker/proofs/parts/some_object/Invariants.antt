-- Whether a part is an object: the parts before are none.
use Rattle.std.proofs.Common.{◌≤◌, ◌≡◌, false}
use Rattle.maker.specs.Adding.{some_object}
use Rattle.maker.proofs.parts.some_object.Given as goal

abbrev pub invariant-loop-i : goal.invariant-loop-i
invariant-loop-i l = (l.i ≤ l.n) × (some_object l.parts l.i ≡ false)
