-- The proof of `overrides::overrides`. Whether all methods that override have the types of the method above. The loop has found none that differs. By the laws of OverrideLaws.
use Rattle.classes.proofs.OverrideLaws as laws
use Rattle.classes.proofs.overrides.overrides.Goals as goal

pub returns-then-not-same_above : goal.returns-then-not-same_above
returns-then-not-same_above c = search laws.all_not

pub loop-i-preserved : goal.loop-i-preserved
loop-i-preserved c = search laws.all_next

pub returns : goal.returns
returns c = search laws.all_done
