-- The proof of `join::up_to_new`: how many of the first n objects there are up to the last new one. By the laws of Numberings.
use Rattle.std.proofs.Common.{◌≤◌}
use Rattle.maker.specs.Joining.{NewAmong}
use Rattle.maker.proofs.join.up_to_new.Given as goal

abbrev pub invariant-loop-k : goal.invariant-loop-k
invariant-loop-k l = (l.k ≤ l.n) × NewAmong l.n l.fresh l.k
