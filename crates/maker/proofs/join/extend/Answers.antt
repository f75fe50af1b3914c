-- The proof of `join::extend`: the new objects in block host, which then has m objects. By the laws of Additions.
use Rattle.std.proofs.Common.{arith, length-set}
use Rattle.canon.specs.Layout.{count_in}
use Rattle.maker.proofs.Additions as laws
use Rattle.maker.proofs.join.extend.Goals as goal

pub overflow_cast-t-2 : goal.overflow_cast-t-2
unfolding count_in
overflow_cast-t-2 c = omega arith

pub overflow_mul-t-2 : goal.overflow_mul-t-2
unfolding count_in
overflow_mul-t-2 c = omega arith

pub overflow_add-host : goal.overflow_add-host
unfolding count_in
overflow_add-host c = omega arith

pub overflow_sub-m : goal.overflow_sub-m
unfolding count_in
overflow_sub-m c = omega arith

pub level_of-k-requires : goal.level_of-k-requires
unfolding count_in
level_of-k-requires c = omega arith

pub bounds-work-host-4 : goal.bounds-work-host-4
bounds-work-host-4 c = simp length-set (omega arith)

pub bounds-work-host-5 : goal.bounds-work-host-5
bounds-work-host-5 c = simp length-set (omega arith)

pub shape_of-work : goal.shape_of-work
shape_of-work c = simp length-set (omega arith)

pub returns : goal.returns
returns c = let pre = c.requires in
    laws.extend_done _ _ _ _ _ pre.0 _ pre.1 _ pre.2 pre.3 _ c.put_new.ensures _ c.level_of-k.ensures _ (omega (arith, c.max-h.ensures)) (omega (arith, c.max-h.ensures))
