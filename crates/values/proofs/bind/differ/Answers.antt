-- The proof of `bind::differ`: true only if two objects unfold to different trees. By a loop, and the laws of Apart.
use Rattle.values.proofs.Apart as laws
use Rattle.values.proofs.bind.differ.Goals as goal

pub returns-then-not-alike : goal.returns-then-not-alike
returns-then-not-alike c = search laws.differ_unlike

pub returns-then-first-ge-FIRST_LEAF : goal.returns-then-first-ge-FIRST_LEAF
returns-then-first-ge-FIRST_LEAF c = search laws.differ_first

pub returns-then-second-ge-FIRST_LEAF : goal.returns-then-second-ge-FIRST_LEAF
returns-then-second-ge-FIRST_LEAF c = search laws.differ_second

pub loop-preserved : goal.loop-preserved
loop-preserved c = search laws.differ_step
