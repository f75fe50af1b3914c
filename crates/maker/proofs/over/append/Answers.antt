-- The proof of `over::append`: the object, after t objects of block `dst`, and the block's level. By the laws of Beside.
use Rattle.std.proofs.Common.{arith, length-set}
use Rattle.maker.proofs.Beside as laws
use Rattle.maker.proofs.over.append.Goals as goal

pub bounds-work-dst-2 : goal.bounds-work-dst-2
bounds-work-dst-2 c = simp length-set (omega arith)

pub bounds-work-dst-3 : goal.bounds-work-dst-3
bounds-work-dst-3 c = simp length-set (omega arith)

pub shape_of-work : goal.shape_of-work
shape_of-work c = simp length-set (omega arith)

pub returns : goal.returns
returns c = search laws.append_done
