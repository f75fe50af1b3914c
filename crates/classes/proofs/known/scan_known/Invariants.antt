-- `known::scan_known` meets its contract: a law of LineLaws for each way on. The loop keeps what the signs that are left say.
use Rattle.std.proofs.Common.{◌-◌, ◌≡◌, length, drop}
use Rattle.classes.specs.Placing.{scan}
use Rattle.classes.proofs.known.scan_known.Given as goal

abbrev pub invariant-loop-a : goal.invariant-loop-a
invariant-loop-a l = scan l.n 0 (drop l.at l.s) ≡ scan l.n 0 (drop l.a l.s)

abbrev pub decreases-loop-a : goal.decreases-loop-a
decreases-loop-a l = length l.s - l.a
