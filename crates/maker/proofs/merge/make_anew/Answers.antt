-- The proof of `merge::make_anew`: a new object in the spare block, or too large. By the laws of Hosts.
use Rattle.std.proofs.Common.{rules}
use Rattle.maker.proofs.Hosts as laws
use Rattle.maker.proofs.merge.make_anew.Goals as goal

pub try_in-requires : goal.try_in-requires
try_in-requires c = (search laws.spare_held, search laws.makeable_few, search laws.spare_begun, search laws.spare_above, search laws.spare_dst, search rules)

pub returns : goal.returns
returns c = search laws.anew_made
