-- The proof of `make::make_object`: a new object of class c with the n first parts, in block `dst` or below, unless it has more objects than a block has room for. By the laws of Wheres, Hosts and values' Tests.
use Rattle.std.proofs.Common.{rules}
use Rattle.values.proofs.Tests as tests
use Rattle.maker.proofs.Wheres as laws
use Rattle.maker.proofs.Hosts as merges
use Rattle.maker.proofs.make.make_object.Goals as goal

pub make_in-requires : goal.make_in-requires
make_in-requires c = (search rules, search merges.some_begun, search rules, search rules)

pub make_fresh-requires : goal.make_fresh-requires
make_fresh-requires c = (search rules, search tests.told, search rules)

pub make_beside-requires : goal.make_beside-requires
make_beside-requires c = (search rules, search laws.first_block_lem, search tests.told, search rules)

pub make_apart-requires : goal.make_apart-requires
make_apart-requires c = (search rules, search laws.first_block_lem, search tests.told, search rules)
