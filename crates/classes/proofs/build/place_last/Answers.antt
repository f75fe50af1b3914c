-- The proof of `build::place_last`. The line at `at`, as main. By the laws of BuildLaws.
use Rattle.classes.proofs.BuildLaws as laws
use Rattle.classes.proofs.build.place_last.Goals as goal

pub returns-in_default : goal.returns-in_default
returns-in_default c = search laws.last_end

pub returns : goal.returns
returns c = search laws.last_main
