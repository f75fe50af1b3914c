-- The proof of `links::hash`: a number that tells most looks apart. By the laws of Looks.
use Rattle.canon.proofs.Looks as laws
use Rattle.canon.proofs.links.hash.Goals as goal

pub returns : goal.returns
returns c = search laws.hash_is
