-- `blocks::past_blocks` meets its contract: a law of BlockLaws for each way on. The loop keeps `Blocks`.
use Rattle.std.proofs.Common.{◌+◌, ◌*◌, ◌<◌, ◌≡◌, length}
use Rattle.lineform.specs.Blocks.{Blocks}
use Rattle.lineform.proofs.blocks.past_blocks.Given as goal

abbrev pub invariant-loop : goal.invariant-loop
invariant-loop l = (l.i ≡ l.from + 32 * l.counter) × (l.i < length l.text) × Blocks l.text l.from l.i
