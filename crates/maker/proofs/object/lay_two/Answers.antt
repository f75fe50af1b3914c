-- The proof of `object::lay_two`: two bytes, from place p on. By the laws of Bytes.
use Rattle.std.proofs.Common.{arith, length-set}
use Rattle.maker.proofs.Bytes as laws
use Rattle.maker.proofs.object.lay_two.Goals as goal

pub bounds-work-p-2 : goal.bounds-work-p-2
bounds-work-p-2 c = simp length-set (omega arith)

pub shape_of-work : goal.shape_of-work
shape_of-work c = simp length-set (omega arith)

pub returns : goal.returns
returns c = search laws.two_put
