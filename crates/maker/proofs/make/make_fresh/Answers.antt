-- The proof of `make::make_fresh`: a new object in block `dst`, where no part lies: alone, or after what its parts lead to. By the laws of Wheres and Hosts.
use Rattle.std.proofs.Common.{rules}
use Rattle.maker.proofs.Wheres as tests
use Rattle.maker.proofs.Hosts as laws
use Rattle.maker.proofs.make.make_fresh.Goals as goal

pub make_alone-requires : goal.make_alone-requires
make_alone-requires c = (search laws.makeable_held, search laws.makeable_few, search tests.denied, search laws.makeable_room, search rules)

pub make_in-requires : goal.make_in-requires
make_in-requires c = (search laws.fresh_makeable, search laws.fresh_begun, search rules, search rules)

pub returns : goal.returns
returns c = search laws.fresh_made
