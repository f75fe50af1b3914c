-- `lines::order` meets its contract. The loop keeps `Counting` (OrderLaws): c classes and m methods stand in front of the lines from i on.
use Rattle.std.proofs.Common.{◌≤◌, ◌+◌, ◌-◌, length}
use Rattle.lineform.proofs.OrderLaws.{Counting}
use Rattle.lineform.proofs.lines.order.Given as goal

abbrev pub invariant-loop-i : goal.invariant-loop-i
invariant-loop-i l = (l.i ≤ length l.d) × (l.c + l.m ≤ l.i) × Counting l.d l.i l.c l.m

abbrev pub decreases-loop-i : goal.decreases-loop-i
decreases-loop-i l = length l.d - l.i
