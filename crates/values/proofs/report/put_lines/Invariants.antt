-- The proof of `report::put_lines`: the lines of the value in block b. By a loop, and the laws of Reports.
use Rattle.std.proofs.Common.{◌≡◌, ◌≤◌, length}
use Rattle.canon.specs.Layout.{count_in}
use Rattle.values.proofs.Reports.{Listed}
use Rattle.values.proofs.report.put_lines.Given as goal

abbrev pub invariant-loop-j : goal.invariant-loop-j
invariant-loop-j l = (l.j ≤ l.n) × (l.n ≡ count_in l.work l.b) × (length l.out ≡ length l.initial.out) × Listed l.work l.b l.initial.out l.j l.out l.to
