-- The proof of `merge::make_in`: a new object over parts brought into the host, or anew where that has no room. By the laws of Hosts.
use Rattle.std.proofs.Common.{rules}
use Rattle.maker.proofs.Hosts as laws
use Rattle.maker.proofs.merge.make_in.Goals as goal

pub make_anew-requires : goal.make_anew-requires
make_anew-requires c = (search laws.tried_makeable, search rules)

pub returns-in-None : goal.returns-in-None
returns-in-None c = search laws.tried_made

pub returns-in-Some : goal.returns-in-Some
returns-in-Some c = search laws.tried_here
