-- The end of a line: what is left of it from each place on ends there.
use Rattle.std.proofs.Common.{◌≡◌, ◌≤◌, ◌+◌, length, drop}
use Rattle.cofj.specs.Show.{line_length}
use Rattle.engine.proofs.cut.line_end.Given as goal

abbrev pub invariant-loop-i : goal.invariant-loop-i
invariant-loop-i l = (l.i ≤ length l.text) × (l.i + line_length (drop l.i l.text) ≡ l.at + line_length (drop l.at l.text))
