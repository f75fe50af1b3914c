-- The objects without fields in block 0, then the input in its block.
use Rattle.evaluator.proofs.InputLaws as laws
use Rattle.evaluator.proofs.run.lay.Goals as goal

pub returns-then-not-fed : goal.returns-then-not-fed
returns-then-not-fed c = search laws.laid_none

pub returns : goal.returns
returns c = search laws.laid_input
