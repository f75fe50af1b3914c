-- `blocks::all_digits` meets its contract: a law of BlockLaws for each way on. The loop keeps that the characters so far are digits.
use Rattle.std.proofs.Common.{◌≤◌, ◌≡◌}
use Rattle.lineform.specs.Blocks.{all_digits}
use Rattle.lineform.proofs.blocks.all_digits.Given as goal

abbrev pub invariant-loop-k : goal.invariant-loop-k
invariant-loop-k l = (l.k ≤ 32) × (l.good ≡ all_digits l.text l.at l.k)
