-- The trace searched for a call: the calls left, at each turn of the loop.
use Rattle.evaluator.proofs.MeetLaws.{Left}
use Rattle.evaluator.proofs.met.open_call.Given as goal

abbrev pub invariant-loop-j : goal.invariant-loop-j
invariant-loop-j l = Left l.work l.trace l.k l.c.receiver l.c.name l.c.args l.c.n l.j
