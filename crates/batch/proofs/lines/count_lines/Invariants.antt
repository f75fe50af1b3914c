-- The proof of `lines::count_lines`. The loop keeps `Counted` (ReadLines): n lines are passed at i.
use Rattle.std.proofs.Common.{◌≤◌, ◌-◌, length}
use Rattle.batch.proofs.ReadLines as laws
use Rattle.batch.proofs.lines.count_lines.Given as goal

abbrev pub invariant-loop-i : goal.invariant-loop-i
invariant-loop-i l = (l.i ≤ length l.d) × (l.n ≤ l.i) × laws.Counted l.d l.i l.n

abbrev pub decreases-loop-i : goal.decreases-loop-i
decreases-loop-i l = length l.d - l.i
