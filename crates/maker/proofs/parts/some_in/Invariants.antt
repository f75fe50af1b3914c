-- The proof of `parts::some_in`: whether one of the parts is an object of block d. By the laws of Hosts.
use Rattle.std.proofs.Common.{◌≤◌, ◌≡◌}
use Rattle.maker.specs.Merging.{some_in}
use Rattle.maker.proofs.parts.some_in.Given as goal

abbrev pub invariant-loop-i : goal.invariant-loop-i
invariant-loop-i l = (l.i ≤ l.n) × (some_in l.parts l.n l.d ≡ some_in l.parts l.i l.d)
