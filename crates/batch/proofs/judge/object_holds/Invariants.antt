-- `judge::object_holds` meets its contract: a loop in which the fields left fall, and the laws of Judges.
use Rattle.std.proofs.Common.{◌≤◌}
use Rattle.canon.specs.Figures.{code_count}
use Rattle.batch.specs.Judging.{FieldsHeld}
use Rattle.batch.proofs.judge.object_holds.Given as goal

abbrev pub invariant-loop-f : goal.invariant-loop-f
invariant-loop-f l = (l.n ≤ code_count) × FieldsHeld l.t l.block l.i l.f
