-- The proof of `bind::bind_objects`: the objects of block b, with mark x bound to object i, to the front of `raw`. By the laws of Bindings.
use Rattle.std.proofs.Common.{arith}
use Rattle.canon.specs.Layout.{count_in}
use Rattle.values.proofs.Bindings as laws
use Rattle.values.proofs.bind.bind_objects.Goals as goal

pub copy-requires : goal.copy-requires
unfolding count_in
copy-requires c = omega arith

pub bind_all-requires : goal.bind_all-requires
unfolding count_in
bind_all-requires c = omega (arith, c.copy.ensures.same)

pub returns : goal.returns
returns c = search laws.bound_all
