-- The proof of `bind::differ`: true only if two objects unfold to different trees. By a loop, and the laws of Apart.
use Rattle.values.specs.Binding.{Leads}
use Rattle.values.proofs.bind.differ.Given as goal

abbrev pub invariant-loop : goal.invariant-loop
invariant-loop l = Leads l.raw l.n l.i l.k l.x l.y
