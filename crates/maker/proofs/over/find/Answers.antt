-- The proof of `over::find`: the place of the object among the t objects of block b, if it is there. By the laws of Finds.
use Rattle.std.proofs.Common.{rules}
use Rattle.maker.proofs.Finds as laws
use Rattle.maker.proofs.over.find.Goals as goal

pub loop-k-init : goal.loop-k-init
loop-k-init c = (search rules, laws.missed_none _ _ _)

pub is_object-requires : goal.is_object-requires
is_object-requires c = (search rules, search laws.find_packed)

pub returns-then-is_object : goal.returns-then-is_object
returns-then-is_object c = search laws.find_hit

pub loop-k-preserved : goal.loop-k-preserved
loop-k-preserved c = (search rules, search laws.missed_more)

pub returns : goal.returns
returns c = search laws.find_miss
