-- The proof of `value::copy_block`: the objects of block b, to block `dst`, which may be b. By a loop, and the laws of Copies.
use Rattle.std.proofs.Common.{rules, refl, arith}
use Rattle.canon.specs.Layout.{count_in}
use Rattle.values.proofs.Copies as laws
use Rattle.values.proofs.value.copy_block.Goals as goal

pub loop-q-init : goal.loop-q-init
unfolding count_in
loop-q-init c = (search rules, omega arith, search rules, laws.copy_none _ _ _ _ _ _ _ refl refl refl refl)

pub returns : goal.returns
returns c = laws.copy_end _ _ _ _ _ _ _ _ _ c.requires.0 c.requires.1 c.loop-q.invariant.3 c.loop-q.invariant.0 c.loop-q-test.false
