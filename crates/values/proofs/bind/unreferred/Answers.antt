-- The proof of `bind::unreferred`: whether none of the n objects of block b refers to object i. By a loop, and the laws of Referring.
use Rattle.std.proofs.Common.{rules}
use Rattle.values.proofs.Referring as laws
use Rattle.values.proofs.bind.unreferred.Goals as goal

pub loop-k-init : goal.loop-k-init
loop-k-init c = (search rules, laws.free_none _ _ _)

pub returns-then-refers : goal.returns-then-refers
returns-then-refers c = search laws.free_not

pub loop-k-preserved : goal.loop-k-preserved
loop-k-preserved c = (search rules, search laws.free_more)
