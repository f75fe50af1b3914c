-- `expr::type_body` meets its contract: a law of StepLaws at each return.
use Rattle.checker.proofs.StepLaws as laws
use Rattle.checker.proofs.expr.type_body.Goals as goal

pub returns-then-at-ge-SIZE : goal.returns-then-at-ge-SIZE
returns-then-at-ge-SIZE c = search (laws.at_past, laws.some_left)

pub returns-then-is_variable : goal.returns-then-is_variable
returns-then-is_variable c = search (laws.at_var, laws.some_left)

pub returns : goal.returns
returns c = search (laws.at_parts, laws.some_left)
