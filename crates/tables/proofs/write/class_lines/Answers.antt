-- `write::class_lines` meets its contract. The loop keeps: the lines of classes 1 to k are put, up to w.
use Rattle.std.proofs.Common.{rules}
use Rattle.tables.proofs.WriteLaws as laws
use Rattle.tables.proofs.write.class_lines.Goals as goal

pub loop-k-init : goal.loop-k-init
loop-k-init c = (search rules, search rules, search rules, laws.classes_none _ _ _)

pub loop-k-preserved : goal.loop-k-preserved
loop-k-preserved c = (search rules, search laws.class_end, search rules, search laws.class_more)

pub returns : goal.returns
returns c = search laws.classes_all
