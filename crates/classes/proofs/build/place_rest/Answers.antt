-- The proof of `build::place_rest`. The lines from `at` on, as m methods and main; then the counts. By the laws of BuildLaws.
use Rattle.classes.proofs.BuildLaws as laws
use Rattle.classes.proofs.build.place_rest.Goals as goal

pub returns-in_default : goal.returns-in_default
returns-in_default c = search laws.rest_method

pub returns-then-not-place_last : goal.returns-then-not-place_last
returns-then-not-place_last c = search laws.rest_main

pub returns : goal.returns
returns c = search laws.rest_done
