-- The proof of `parts::largest`: the block with the most objects, of block b and those of the parts but block 0. By the laws of Makes and Hosts.
use Rattle.std.proofs.Common.{rules}
use Rattle.maker.proofs.Makes as lays
use Rattle.maker.proofs.Hosts as laws
use Rattle.maker.proofs.parts.largest.Goals as goal

pub loop-i-init : goal.loop-i-init
loop-i-init c = (search rules, laws.largest_none _ _ 0 _)

pub larger-d-requires : goal.larger-d-requires
larger-d-requires c = (search lays.part_held, search laws.largest_so_far)

pub loop-i-preserved : goal.loop-i-preserved
loop-i-preserved c = (search rules, search laws.largest_more)

pub returns : goal.returns
returns c = search laws.largest_done
