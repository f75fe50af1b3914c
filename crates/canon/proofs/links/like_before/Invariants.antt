-- The proof of `links::like_before`: the first row of those that look as row x does, if one below x does, which are listed from `from` on; else x. By a loop in which z falls, and the laws of Looks.
use Rattle.canon.proofs.Looks as laws
use Rattle.canon.proofs.links.like_before.Given as goal

abbrev pub invariant-loop-z : goal.invariant-loop-z
invariant-loop-z l = laws.Searching l.raw l.x l.h l.z

abbrev pub decreases-loop-z : goal.decreases-loop-z
decreases-loop-z l = l.z
