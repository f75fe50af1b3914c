-- The proof of `leads::steady`: whether each of n objects looks as the one of its colour does. By a loop, and the laws of Firsts.
use Rattle.std.proofs.Common.{◌≤◌}
use Rattle.canon.specs.Classing.{Steady}
use Rattle.canon.proofs.leads.steady.Given as goal

abbrev pub invariant-loop-i : goal.invariant-loop-i
invariant-loop-i l = (l.i ≤ l.n) × Steady l.nodes l.i l.cs
