-- `known::rest_clear` meets its contract: a law of LineLaws for each way on. The loop keeps that the bytes so far are clear.
use Rattle.std.proofs.Common.{◌-◌, ◌≤◌, ◌<◌, ◌≡◌, true, length}
use Rattle.classes.specs.Placing.{none_above}
use Rattle.classes.proofs.known.rest_clear.Given as goal

abbrev pub invariant-loop-p : goal.invariant-loop-p
invariant-loop-p l = (l.at ≤ l.p) × (l.p < length l.s) × (none_above l.n l.s l.at (l.p - l.at) ≡ true)
