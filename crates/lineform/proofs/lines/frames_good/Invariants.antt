-- `lines::frames_good` meets its contract. The loop keeps `Left` (LineLaws): the lines from i on have frames exactly when all do, and the
-- right expressions of the methods passed are noted.
use Rattle.std.proofs.Common.{◌≤◌, ◌-◌, length}
use Rattle.lineform.proofs.LineLaws.{Left}
use Rattle.lineform.proofs.lines.frames_good.Given as goal

abbrev pub invariant-loop-i : goal.invariant-loop-i
invariant-loop-i l = (l.i ≤ length l.d) × Left l.d l.i l.rights l.m

abbrev pub decreases-loop-i : goal.decreases-loop-i
decreases-loop-i l = length l.d - l.i
