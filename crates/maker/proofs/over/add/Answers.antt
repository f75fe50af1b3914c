-- The proof of `over::add`: the objects of block b and the new one, in block `dst`. By the laws of Beside.
use Rattle.std.proofs.Common.{rules, arith}
use Rattle.canon.specs.Layout.{count_in}
use Rattle.maker.proofs.Beside as laws
use Rattle.maker.proofs.over.add.Goals as goal

pub append-requires : goal.append-requires
unfolding count_in
append-requires c = (omega arith, search rules)

pub returns : goal.returns
returns c = search laws.add_there
