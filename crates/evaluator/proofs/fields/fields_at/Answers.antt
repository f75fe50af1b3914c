-- How many fields of fields begin at a place: so many do, at each turn of the loop.
use Rattle.evaluator.proofs.ChainLaws as laws
use Rattle.evaluator.proofs.fields.fields_at.Goals as goal

pub loop-d-init : goal.loop-d-init
loop-d-init c = laws.chain_none _ _ _

pub loop-d-preserved : goal.loop-d-preserved
loop-d-preserved c = search laws.chain_more

pub returns : goal.returns
returns c = search laws.chain_end
