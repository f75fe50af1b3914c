-- Arguments compared: so far they are the same, at each turn of the loop.
use Rattle.evaluator.proofs.SameLaws as laws
use Rattle.evaluator.proofs.met.same_args.Goals as goal

pub loop-i-init : goal.loop-i-init
loop-i-init c = laws.args_start _ _ _ _

pub equal-requires : goal.equal-requires
equal-requires c = (search laws.part_held, search laws.part_held)

pub returns-then-not-equal : goal.returns-then-not-equal
returns-then-not-equal c = search laws.args_differ

pub loop-i-preserved : goal.loop-i-preserved
loop-i-preserved c = search laws.args_more

pub returns : goal.returns
returns c = search laws.args_end
