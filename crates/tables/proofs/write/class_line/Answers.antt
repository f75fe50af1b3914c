-- `write::class_line` meets its contract: the bytes gathered are those of `class_in`.
use Rattle.tables.proofs.WriteLaws as laws
use Rattle.std.proofs.Common.{arith, length-take}
use Rattle.tables.proofs.write.class_line.Goals as goal

pub slice_bounds-put_line-end : goal.slice_bounds-put_line-end
slice_bounds-put_line-end c = simp length-take (omega arith)

pub put_line-requires : goal.put_line-requires
put_line-requires c = simp length-take (omega arith)

pub returns : goal.returns
returns c = search laws.class_line_is
