-- The cycle of `exprs::read_expr` meets its contracts: a law of ExprLaws for each return. The nesting limit falls. The loop of `read_list` keeps
-- where the walk over the expressions that are left ends.
use Rattle.std.proofs.Common.{rules}
use Rattle.lineform.proofs.ExprLaws as laws
use Rattle.lineform.proofs.exprs.+read_expr_read_list.Goals as goal

pub read_expr-returns-then-parts-eq0 : goal.read_expr-returns-then-parts-eq0
read_expr-returns-then-parts-eq0 t c = search laws.by_none

pub read_expr-returns : goal.read_expr-returns
read_expr-returns t c = search laws.by_parts

pub read_list-returns-then-left-eq0 : goal.read_list-returns-then-left-eq0
read_list-returns-then-left-eq0 t c = search laws.list_deep

pub read_list-loop-init : goal.read_list-loop-init
read_list-loop-init t c = (search rules, search laws.list_starts)

pub read_list-returns-in_err-g : goal.read_list-returns-in_err-g
read_list-returns-in_err-g t c = rw c.from_residual.ensures (search (laws.list_stops, c.in_err-g.was))

pub read_list-returns-in_err-a : goal.read_list-returns-in_err-a
read_list-returns-in_err-a t c = rw c.from_residual-in_err-a.ensures (search (laws.list_bad, c.in_ok-g.was, c.in_err-a.was))

pub read_list-loop-preserved-then-g-eq0 : goal.read_list-loop-preserved-then-g-eq0
read_list-loop-preserved-then-g-eq0 t c = (search rules, search (laws.list_leaf, c.in_ok-g.was))

pub read_list-loop-preserved : goal.read_list-loop-preserved
read_list-loop-preserved t c = (search rules, search (laws.list_next, c.in_ok-g.was, c.in_ok-a.was))

pub read_list-returns : goal.read_list-returns
read_list-returns t c = search laws.list_ends
