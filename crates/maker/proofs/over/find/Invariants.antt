-- The proof of `over::find`: the place of the object among the t objects of block b, if it is there. By the laws of Finds.
use Rattle.std.proofs.Common.{◌≤◌}
use Rattle.maker.specs.Adding.{bytes_of, Missed}
use Rattle.maker.proofs.over.find.Given as goal

abbrev pub invariant-loop-k : goal.invariant-loop-k
invariant-loop-k l = (l.k ≤ l.t) × Missed l.work l.b (bytes_of l.o) l.k
