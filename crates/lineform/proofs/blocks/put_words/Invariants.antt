-- `blocks::put_words` meets its contract: a law of BlockLaws for each way on. The loop keeps the words so far.
use Rattle.std.proofs.Common.{◌≤◌, ◌≡◌}
use Rattle.lineform.specs.Blocks.{words_put}
use Rattle.lineform.proofs.blocks.put_words.Given as goal

abbrev pub invariant-loop-k : goal.invariant-loop-k
invariant-loop-k l = (l.k ≤ l.m) × (l.w ≡ words_put l.text l.from l.initial.w l.k)
