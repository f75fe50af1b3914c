-- The proof of `value::move_out`: the value at object i of block b, alone and numbered from its root, to block `dst`. By the laws of Blocks.
use Rattle.std.proofs.Common.{rules}
use Rattle.values.proofs.Blocks as laws
use Rattle.values.proofs.value.move_out.Goals as goal

pub put-requires : goal.put-requires
put-requires c = laws.move_ready _ _ c.requires.0.block _ _ _ _ c.take_up-n.ensures _ _ (search rules) (search rules) c.requires.0.low c.requires.1

pub returns : goal.returns
returns c = laws.moved_out _ _ c.requires.0.block _ _ _ _ c.take_up-n.ensures _ _ _ _ c.put.ensures
