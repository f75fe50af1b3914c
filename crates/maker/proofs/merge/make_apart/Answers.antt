-- The proof of `merge::make_apart`: a new object whose parts lie in several blocks. By the laws of Hosts.
use Rattle.std.proofs.Common.{rules}
use Rattle.maker.proofs.Hosts as laws
use Rattle.maker.proofs.merge.make_apart.Goals as goal

pub bounds-work-b : goal.bounds-work-b
bounds-work-b c = search laws.largest_read

pub make_in-requires : goal.make_in-requires
make_in-requires c = (search rules, search laws.largest_begun, search rules, search rules)

pub make_copied-requires : goal.make_copied-requires
make_copied-requires c = (search rules, search laws.largest_block, search rules, search rules, search rules)
