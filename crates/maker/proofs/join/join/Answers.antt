-- The proof of `join::join`: the new objects of block src added to block host. By the laws of Joins.
use Rattle.maker.proofs.Joins as laws
use Rattle.std.proofs.Common.{arith}
use Rattle.canon.specs.Layout.{count_in}
use Rattle.maker.proofs.join.join.Goals as goal

pub up_to_new-n-requires : goal.up_to_new-n-requires
unfolding count_in
up_to_new-n-requires c = omega arith

pub number_new-requires : goal.number_new-requires
unfolding count_in
number_new-requires c = omega arith

pub returns-in_default : goal.returns-in_default
returns-in_default c = search laws.join_full

pub returns-then-m-t : goal.returns-then-m-t
returns-then-m-t c = search laws.join_none

pub extend-requires : goal.extend-requires
extend-requires c = laws.join_ready _ _ _ _ _ c.requires _ c.up_to_new-n.ensures _ _ c.number_new.ensures _ c.in-Some.is

pub returns : goal.returns
returns c = search laws.join_more
