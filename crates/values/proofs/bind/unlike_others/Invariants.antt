-- The proof of `bind::unlike_others`: true only if object i of n unfolds to no other object's tree. By a loop, and the laws of Apart.
use Rattle.std.proofs.Common.{◌≤◌}
use Rattle.values.specs.Binding.{UnlikeOthers}
use Rattle.values.proofs.bind.unlike_others.Given as goal

abbrev pub invariant-loop-k : goal.invariant-loop-k
invariant-loop-k l = (l.k ≤ l.n) × UnlikeOthers l.raw l.n l.i l.k
