-- The proof of `links::hash_plain`: a number for an object's class and its fields' numbers. By the laws of Looks.
use Rattle.canon.proofs.Looks as laws
use Rattle.canon.proofs.links.hash_plain.Goals as goal

pub returns : goal.returns
returns c = search laws.plain_is
