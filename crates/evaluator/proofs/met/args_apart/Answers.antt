-- Arguments told apart: a law for the return inside the loop.
use Rattle.evaluator.proofs.ApartLaws as laws
use Rattle.evaluator.proofs.met.args_apart.Goals as goal

pub returns-then-apart : goal.returns-then-apart
returns-then-apart c = search laws.apart_found

pub returns : goal.returns
returns c = laws.apart_none _ _ _
