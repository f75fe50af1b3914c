-- The proof of `number::level_of`: a level for the n objects from a place on. By a loop, and the laws of Levels.
use Rattle.std.proofs.Common.{◌≤◌, ◌-◌}
use Rattle.canon.specs.Figures.{number_code}
use Rattle.canon.specs.Numbers.{Levels}
use Rattle.canon.proofs.number.level_of.Given as goal

abbrev pub invariant-loop-i : goal.invariant-loop-i
invariant-loop-i l = (l.i ≤ l.n) × (number_code ≤ l.m) × Levels l.work l.at l.i (l.m - number_code)
