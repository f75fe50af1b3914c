-- The proof of `overrides::same_above`. Whether method i has the types of the method of its name above its class, where there is one. By the laws of OverrideLaws.
use Rattle.classes.proofs.OverrideLaws as laws
use Rattle.classes.proofs.overrides.same_above.Goals as goal

pub returns-in_default : goal.returns-in_default
returns-in_default c = search laws.above_none

pub returns : goal.returns
returns c = search laws.above_same
