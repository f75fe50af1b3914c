-- The proof of `lift::lift`: p bytes of objects, from a place of `src` to a place of `dst`. By a loop, and the laws of Lifts.
use Rattle.std.proofs.Common.{◌≡◌, ◌≤◌, length}
use Rattle.canon.specs.Tables.{Lifted}
use Rattle.canon.proofs.lift.lift.Given as goal

abbrev pub invariant-loop-q : goal.invariant-loop-q
invariant-loop-q l = (l.q ≤ l.p) × (length l.dst ≡ length l.initial.dst) × Lifted l.src l.from l.q l.table l.initial.dst l.to l.dst
