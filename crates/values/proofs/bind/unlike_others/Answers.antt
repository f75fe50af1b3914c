-- The proof of `bind::unlike_others`: true only if object i of n unfolds to no other object's tree. By a loop, and the laws of Apart.
use Rattle.std.proofs.Common.{rules}
use Rattle.values.proofs.Apart as laws
use Rattle.values.proofs.bind.unlike_others.Goals as goal

pub loop-k-preserved : goal.loop-k-preserved
loop-k-preserved c = (search rules, search laws.others_more)
