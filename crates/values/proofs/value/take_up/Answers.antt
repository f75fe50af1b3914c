-- The proof of `value::take_up`: copies the objects of block b to the front of `raw`, and answers how many they are. By the laws of Blocks.
use Rattle.std.proofs.Common.{arith}
use Rattle.canon.specs.Layout.{count_in}
use Rattle.values.proofs.Blocks as laws
use Rattle.values.proofs.value.take_up.Goals as goal

pub count_up-requires : goal.count_up-requires
unfolding count_in
count_up-requires c = omega arith

pub copy-requires : goal.copy-requires
unfolding count_in
copy-requires c = omega arith

pub returns : goal.returns
returns c = search laws.taken
