-- Main's run: the blocks are laid, no call is open, and main is evaluated at its block.
use Rattle.evaluator.proofs.RunLaws as laws
use Rattle.evaluator.proofs.run.run.Goals as goal

pub eval-outcome-requires : goal.eval-outcome-requires
eval-outcome-requires c = search laws.main_runnable

pub returns : goal.returns
returns c = search laws.main_runs
