-- `write::put_lines` meets its contract: classes, methods and main, one after another.
use Rattle.std.proofs.Common.{arith, get_or}
use Rattle.std.proofs.Math.Nat.{min-le_right}
use Rattle.tables.proofs.WriteLaws as laws
use Rattle.tables.proofs.write.put_lines.Goals as goal

pub method_lines-b-requires : goal.method_lines-b-requires
method_lines-b-requires c = (omega (arith, c.min-m.ensures, min-le_right (get_or c.args.t.now 12 0) 64), search laws.methods_room)

pub main_line-requires : goal.main_line-requires
main_line-requires c = search laws.main_room

pub returns : goal.returns
returns c = search laws.lines_are
