-- The proof of `bind::close_bound`: X = u for object i of block b, to block `dst`. By the laws of Bindings and Apart.
use Rattle.values.proofs.Bindings as bindings
use Rattle.values.proofs.Apart as apart
use Rattle.values.proofs.bind.close_bound.Goals as goal

pub put_distinct-requires : goal.put_distinct-requires
put_distinct-requires c = (
  bindings.bound_rooted _ _ _ c.requires.0 _ _ _ c.bind_objects-n.ensures _ c.requires.2,
  apart.distinct_yes _ _ _ c.stay_distinct.ensures c.if-stay_distinct.true,
)

pub returns-then-stay_distinct : goal.returns-then-stay_distinct
returns-then-stay_distinct c = search bindings.closed

pub put_merged-requires : goal.put_merged-requires
put_merged-requires c = bindings.bound_rooted _ _ _ c.requires.0 _ _ _ c.bind_objects-n.ensures _ c.requires.2

pub returns : goal.returns
returns c = search bindings.closed
