-- The proof of `overrides::same_types`. Whether methods i and j have the same types: both results, the number of parameters and theirs, in one row of bytes. By the laws of OverrideLaws.
use Rattle.classes.proofs.OverrideLaws as laws
use Rattle.classes.proofs.overrides.same_types.Goals as goal

pub returns : goal.returns
returns c = search laws.same_as_lem
