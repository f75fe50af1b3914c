-- The proof of `links::hang`: row x refers to row v. By the laws of Hangs.
use Rattle.canon.proofs.Hangs as laws
use Rattle.canon.proofs.links.hang.Goals as goal

pub returns : goal.returns
returns c = laws.hang_object _ _ _ _ c.requires.0 c.requires.1 c.requires.2 c.requires.3 c.if-v-eq0.false
