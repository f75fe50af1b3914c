-- The proof of `bind::other_field`: the first field whose codes or numbers differ, if there is one. By a loop, and the laws of Apart.
use Rattle.std.proofs.Common.{◌≤◌}
use Rattle.canon.specs.Figures.{code_count}
use Rattle.values.proofs.bind.other_field.Given as goal

abbrev pub invariant-loop-f : goal.invariant-loop-f
invariant-loop-f l = l.f ≤ code_count
