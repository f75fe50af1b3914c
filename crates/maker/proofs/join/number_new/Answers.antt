-- The proof of `join::number_new`: numbers for the new ones of the first n objects, from t on in their order. By the laws of Numberings.
use Rattle.std.proofs.Common.{rules, arith}
use Rattle.maker.proofs.Numberings as laws
use Rattle.maker.proofs.join.number_new.Goals as goal
use Rattle.maker.proofs.join.number_new.Goals.{then-fresh-x+else-next-ge-CAPACITY, else-fresh-x}

pub loop-x-init : goal.loop-x-init
loop-x-init c = (search rules, laws.counted_none _ _ _, λ h. h)

pub returns-then-next-ge-CAPACITY : goal.returns-then-next-ge-CAPACITY
returns-then-next-ge-CAPACITY c = search laws.number_full

pub loop-x-preserved : goal.loop-x-preserved
loop-x-preserved c = (
  search rules,
  elim c.if-fresh-x.branch [ then-fresh-x+else-next-ge-CAPACITY w ↦ search laws.number_more | else-fresh-x w ↦ search laws.number_same ],
  elim c.if-fresh-x.branch [ then-fresh-x+else-next-ge-CAPACITY w ↦ λ h. omega (arith, w.next-is) | else-fresh-x w ↦ λ h. omega (arith, w.next-is, c.loop-x.invariant.2 h) ],
)

pub returns : goal.returns
returns c = search laws.number_end
