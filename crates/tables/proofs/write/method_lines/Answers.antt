-- `write::method_lines` meets its contract. The loop keeps: the lines of the first i methods are put, up to w.
use Rattle.std.proofs.Common.{rules, arith, length-take, length-drop}
use Rattle.tables.proofs.WriteLaws as laws
use Rattle.tables.proofs.write.method_lines.Goals as goal

pub loop-i-init : goal.loop-i-init
loop-i-init c = (search rules, search rules, search rules, laws.methods_none _ _ _)

pub put_line-w-requires : goal.put_line-w-requires
put_line-w-requires c = simp (length-take, length-drop) (omega arith)

pub loop-i-preserved : goal.loop-i-preserved
loop-i-preserved c = (search rules, search laws.method_end, search rules, search laws.method_more)

pub returns : goal.returns
returns c = search laws.methods_all
