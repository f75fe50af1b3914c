-- The proof of `links::link`: the lists of who refers to whom, by looks and by each field. By the laws of Hangs and Refers.
use Rattle.std.proofs.Common.{rules}
use Rattle.canon.specs.Figures.{hash_count}
use Rattle.canon.proofs.Zeros as zeros
use Rattle.canon.proofs.Hangs as hangs
use Rattle.canon.proofs.links.link.Goals as goal

pub group-requires : goal.group-requires
group-requires c = (c.requires.0, hangs.free_hung _ _ c.requires.3 c.requires.1, c.requires.1, search rules, zeros.zeros_new hash_count _, search rules)
