-- The first text, line by line: what is left of it from each line's start on ends there.
use Rattle.std.proofs.Common.{◌≡◌, true, ◌≤◌, ◌+◌, ◌-◌, length, drop}
use Rattle.cofj.specs.Show.{first_length}
use Rattle.engine.proofs.cut.first_length.Given as goal

abbrev pub invariant-loop-at : goal.invariant-loop-at
invariant-loop-at l = (l.at ≤ length l.text) × (l.at + first_length true (drop l.at l.text) ≡ first_length true l.text)

abbrev pub decreases-loop-at : goal.decreases-loop-at
decreases-loop-at l = length l.text - l.at
