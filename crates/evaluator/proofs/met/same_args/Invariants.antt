-- Arguments compared: so far they are the same, at each turn of the loop.
use Rattle.evaluator.proofs.SameLaws.{Comparing}
use Rattle.evaluator.proofs.met.same_args.Given as goal

abbrev pub invariant-loop-i : goal.invariant-loop-i
invariant-loop-i l = Comparing l.work l.a l.b l.i l.n
