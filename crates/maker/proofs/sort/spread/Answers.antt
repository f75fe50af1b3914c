-- The proof of `sort::spread`: what leads to a new object marked, until there is nothing more to mark. By the laws of Sorts.
use Rattle.maker.proofs.Sorts as laws
use Rattle.maker.proofs.sort.spread.Goals as goal

pub loop-init : goal.loop-init
loop-init c = search laws.onward_none

pub spread_once-requires : goal.spread_once-requires
spread_once-requires c = search laws.onward_sorting

pub returns-then-not-spread_once : goal.returns-then-not-spread_once
returns-then-not-spread_once c = search laws.onward_more

pub loop-preserved : goal.loop-preserved
loop-preserved c = search laws.onward_more
