-- The proof of `make::make_beside`: a new object whose parts lie in block b, or are no objects. By the laws of Finds, Beside, Hosts and values' Copies.
use Rattle.std.proofs.Common.{rules}
use Rattle.maker.proofs.Finds as finds
use Rattle.maker.proofs.Beside as beside
use Rattle.canon.specs.Layout.{count_in}
use Rattle.maker.proofs.Hosts as merges
use Rattle.maker.proofs.make.make_beside.Goals as goal

pub find-requires : goal.find-requires
unfolding count_in
find-requires c = (search rules, search rules, search finds.root_packed)

pub bring-requires : goal.bring-requires
bring-requires c = (search beside.beside_held, search merges.makeable_room)

pub returns-in-Some : goal.returns-in-Some
returns-in-Some c = search beside.beside_found

pub add-requires : goal.add-requires
unfolding count_in
add-requires c = (search rules, search rules, search merges.makeable_room)

pub returns : goal.returns
returns c = search beside.beside_new
