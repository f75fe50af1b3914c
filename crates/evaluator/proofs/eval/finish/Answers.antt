-- A new object of evaluated values: without fields, made within the limit, or too large.
use Rattle.std.proofs.Common.{rules}
use Rattle.evaluator.proofs.NewSteps as laws
use Rattle.evaluator.proofs.eval.finish.Goals as goal

pub returns-then-n-eq0 : goal.returns-then-n-eq0
returns-then-n-eq0 c = search laws.finish_fieldless

pub make-requires : goal.make-requires
make-requires c = (search laws.finish_parts, search rules, search laws.finish_limit)

pub returns-in_default : goal.returns-in_default
returns-in_default c = search laws.finish_large

pub returns : goal.returns
returns c = search laws.finish_value
