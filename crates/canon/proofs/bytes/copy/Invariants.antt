-- The proof of `bytes::copy`: n bytes of `from`, from place i on, to place j of `to`. By a loop, and the laws of Runs.
use Rattle.std.proofs.Common.{◌≡◌, ◌≤◌, length}
use Rattle.canon.specs.Tables.{Carried}
use Rattle.canon.proofs.bytes.copy.Given as goal

abbrev pub invariant-loop-k : goal.invariant-loop-k
invariant-loop-k l = (l.k ≤ l.n) × (length l.to ≡ length l.initial.to) × Carried l.from l.i l.initial.to l.j l.k l.to
