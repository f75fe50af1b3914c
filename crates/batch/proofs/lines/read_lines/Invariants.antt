-- The proof of `lines::read_lines`. The loop keeps `Listing` (ReadLines): the lines from i on list the parts after those that are read.
use Rattle.std.proofs.Common.{◌≡◌, ◌≤◌, ◌-◌, length}
use Rattle.batch.proofs.ReadLines as laws
use Rattle.batch.proofs.lines.read_lines.Given as goal

abbrev pub invariant-loop-i : goal.invariant-loop-i
invariant-loop-i l = (l.i ≤ length l.d) × (length l.parts ≡ length l.initial.parts) × laws.Listing l.t l.d l.n l.i l.k l.parts

abbrev pub decreases-loop-i : goal.decreases-loop-i
decreases-loop-i l = length l.d - l.i
