-- `judge::value_fits` meets its contract: a loop in which the objects left fall, and the laws of Judges.
use Rattle.std.proofs.Common.{◌≤◌}
use Rattle.canon.specs.Figures.{capacity}
use Rattle.batch.specs.Judging.{ObjectsHeld}
use Rattle.batch.proofs.judge.value_fits.Given as goal

abbrev pub invariant-loop-i : goal.invariant-loop-i
invariant-loop-i l = (l.n ≤ capacity) × ObjectsHeld l.t l.block l.i
