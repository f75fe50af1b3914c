-- The proof of `links::like_before`: the first row of those that look as row x does, if one below x does, which are listed from `from` on; else x. By a loop in which z falls, and the laws of Looks.
use Rattle.canon.proofs.Looks as laws
use Rattle.canon.proofs.links.like_before.Goals as goal

pub loop-z-init : goal.loop-z-init
loop-z-init c = laws.search_start _ _ _ _ _ _ _ c.requires

pub returns-then-look_alike : goal.returns-then-look_alike
returns-then-look_alike c = laws.like_found _ _ _ _ _ _ _ c.requires _ c.loop-z.invariant c.loop-z-test.true _ c.look_alike.ensures c.if-look_alike.true

pub loop-z-preserved : goal.loop-z-preserved
loop-z-preserved c = laws.search_more _ _ _ _ _ _ _ c.requires _ c.loop-z.invariant c.loop-z-test.true _ c.look_alike.ensures c.if-look_alike.false
