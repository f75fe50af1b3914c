-- The proof of `join::put_new`: the new ones of the first n objects, each at the place that `told` has for it. By the laws of Additions.
use Rattle.std.proofs.Common.{rules}
use Rattle.maker.proofs.Additions as laws
use Rattle.maker.proofs.join.put_new.Goals as goal
use Rattle.maker.proofs.join.put_new.Goals.{then-fresh-x, else-fresh-x}

pub loop-x-init : goal.loop-x-init
loop-x-init c = (search rules, search laws.laid_few, laws.laid_none _ _ _ _ _)

pub overflow_sub-told : goal.overflow_sub-told
overflow_sub-told c = search laws.new_some

pub put_object-requires : goal.put_object-requires
put_object-requires c = (search laws.laid_inside, search rules, search laws.new_few, search laws.laid_room, search rules)

pub loop-x-preserved : goal.loop-x-preserved
loop-x-preserved c = let pre = c.requires in (
  search rules,
  search rules,
  elim c.if-fresh-x.branch [
    | then-fresh-x w ↦ laws.laid_more _ _ _ _ _ pre.0 _ _ c.loop-x.invariant.2 _ pre.1 (search rules) _ w.if-fresh-x.true _ w.put_object.ensures w.work-is
    | else-fresh-x w ↦ laws.laid_kept _ _ _ _ _ pre.0 _ _ c.loop-x.invariant.2 _ pre.1 (search rules) _ w.if-fresh-x.false w.work-is
  ],
)

pub returns : goal.returns
returns c = search laws.laid_end
