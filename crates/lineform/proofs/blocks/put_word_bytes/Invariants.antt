-- `blocks::put_word_bytes` meets its contract: a law of BlockLaws for each way on. The loop keeps the bytes so far.
use Rattle.std.proofs.Common.{◌≤◌, ◌≡◌, length}
use Rattle.lineform.specs.Blocks.{bytes_put}
use Rattle.lineform.proofs.blocks.put_word_bytes.Given as goal

abbrev pub invariant-loop-k : goal.invariant-loop-k
invariant-loop-k l = (l.k ≤ l.m) × (length l.out ≡ length l.initial.out) × (l.out ≡ bytes_put l.w l.initial.out l.to l.k)
