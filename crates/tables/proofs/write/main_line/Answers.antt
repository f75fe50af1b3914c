-- `write::main_line` meets its contract: the row's bytes are those of `main_in`.
use Rattle.tables.proofs.WriteLaws as laws
use Rattle.std.proofs.Common.{arith, length-take, length-drop}
use Rattle.tables.proofs.write.main_line.Goals as goal

pub put_line-requires : goal.put_line-requires
put_line-requires c = simp (length-take, length-drop) (omega arith)

pub returns : goal.returns
returns c = search laws.main_line_is
