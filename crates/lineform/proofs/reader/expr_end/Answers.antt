-- `reader::expr_end` meets its contract: what `read_expr` ensures at document 01's limit. Written out, so that another limit is refused here.
use Rattle.std.proofs.Common.{rules}
use Rattle.lineform.proofs.ExprLaws as laws
use Rattle.lineform.proofs.reader.expr_end.Goals as goal

pub returns-in_err-g : goal.returns-in_err-g
returns-in_err-g c = rw c.from_residual.ensures (search (rules, laws.by_refused, c.in_err-g.was))

pub returns : goal.returns
returns c = search (rules, laws.by_next, c.in_ok-g.was)
