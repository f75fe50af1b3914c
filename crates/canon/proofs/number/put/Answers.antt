-- The proof of `number::put`: the value of n objects with their colours, written to a block. By the laws of Walks and Numbers.
use Rattle.std.proofs.Common.{rules, arith}
use Rattle.canon.specs.Figures.{capacity}
use Rattle.canon.proofs.Walks as walks
use Rattle.canon.proofs.Numbers as laws
use Rattle.canon.proofs.number.put.Goals as goal

pub visit-m-requires : goal.visit-m-requires
visit-m-requires c = (
  laws.walkable _ _ _ _ _ _ c.requires _ _ (search rules) (search rules),
  walks.listed_none _ capacity _,
  (λ _. laws.walk_root _ _ _ _ _ _ c.requires),
  laws.walk_small _ _ _ _ _ _ c.requires,
)

pub numbers-requires : goal.numbers-requires
numbers-requires c = (laws.colours_below _ _ _ _ _ _ c.requires, omega (arith, c.requires.raw.few), omega (arith, c.requires.raw.few))

pub gather-requires : goal.gather-requires
gather-requires c = let walked = c.visit-m.ensures.0 in
    let few = c.visit-m.ensures.1.few in
    (laws.gatherable _ _ _ _ _ _ c.requires _ _ walked few (search rules) _ (search rules), laws.put_room _ _ _ _ _ _ c.requires _ _ walked few (search rules))

pub returns : goal.returns
returns c = let walked = c.visit-m.ensures.0 in
    let listed = c.visit-m.ensures.1 in
    laws.put_done _ _ _ _ _ _ c.requires c.visit-m.new.order c.visit-m.result walked listed.few (search rules) _ listed _ c.numbers.ensures _
    c.gather.ensures _ c.level_of-l.ensures
