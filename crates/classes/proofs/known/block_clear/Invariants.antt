-- `known::block_clear` meets its contract: a law of LineLaws for each way on. The loop keeps what the bytes so far say.
use Rattle.std.proofs.Common.{◌≤◌, ◌≡◌}
use Rattle.classes.specs.Placing.{none_above}
use Rattle.classes.proofs.known.block_clear.Given as goal

abbrev pub invariant-loop-k : goal.invariant-loop-k
invariant-loop-k l = (l.k ≤ 16) × (l.good ≡ none_above l.n l.s l.at l.k)
