-- The proof of `lines::count_lines`. The loop keeps `Counted` (ReadLines): n lines are passed at i.
use Rattle.std.proofs.Common.{rules}
use Rattle.batch.proofs.ReadLines as laws
use Rattle.batch.proofs.lines.count_lines.Goals as goal

pub loop-i-init : goal.loop-i-init
loop-i-init c = (search rules, search rules, search laws.count_none)

pub loop-i-preserved : goal.loop-i-preserved
loop-i-preserved c = (search laws.count-within, search rules, search laws.count_more)

pub returns : goal.returns
returns c = search laws.count_done
