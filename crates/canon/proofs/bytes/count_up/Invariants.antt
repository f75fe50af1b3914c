-- The proof of `bytes::count_up`: 0, 1, .., n of them. By a loop, and the laws of Runs.
use Rattle.std.proofs.Common.{◌≡◌, ◌≤◌, length}
use Rattle.canon.specs.Tables.{Filled}
use Rattle.canon.proofs.bytes.count_up.Given as goal

abbrev pub invariant-loop-i : goal.invariant-loop-i
invariant-loop-i l = (l.i ≤ l.n) × (length l.to ≡ length l.initial.to) × Filled (λ q. q) l.i l.to
