-- The proof of `over::empty`: block `dst` without objects. By the laws of Beside.
use Rattle.std.proofs.Common.{arith, length-set}
use Rattle.maker.proofs.Beside as laws
use Rattle.maker.proofs.over.empty.Goals as goal

pub bounds-work-dst-2 : goal.bounds-work-dst-2
bounds-work-dst-2 c = simp length-set (omega arith)

pub shape_of-work : goal.shape_of-work
shape_of-work c = simp length-set (omega arith)

pub returns : goal.returns
returns c = search laws.empty_done
