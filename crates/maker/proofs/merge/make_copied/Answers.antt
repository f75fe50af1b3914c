-- The proof of `merge::make_copied`: a new object whose parts are brought into a copy of block b, in block `dst`, where no part lies. By the laws of Hosts.
use Rattle.std.proofs.Common.{rules}
use Rattle.maker.proofs.Hosts as laws
use Rattle.maker.proofs.merge.make_copied.Goals as goal

pub make_in-requires : goal.make_in-requires
make_in-requires c = (search laws.copied_makeable, search laws.copied_begun, search rules, search rules)

pub returns : goal.returns
returns c = search laws.copied_made
