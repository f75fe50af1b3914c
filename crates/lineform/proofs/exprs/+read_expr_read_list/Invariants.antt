-- The cycle of `exprs::read_expr` meets its contracts: a law of ExprLaws for each return. The nesting limit falls. The loop of `read_list` keeps
-- where the walk over the expressions that are left ends.
use Rattle.std.proofs.Common.{◌≤◌, ◌+◌, ◌-◌, ◌*◌, ◌≡◌, drop}
use Rattle.cofj.specs.Frames.{expr, exprs_by}
use Rattle.lineform.specs.Answers.{end_of}
use Rattle.lineform.proofs.ExprLaws.{walk}
use Rattle.lineform.proofs.exprs.+read_expr_read_list.Given as goal

abbrev pub invariant-read_list-loop : goal.invariant-read_list-loop
invariant-read_list-loop l = (1 ≤ l.left) × (walk l.s l.left (l.n - l.counter) l.a ≡ end_of l.s (exprs_by (expr l.left) l.n (drop l.at l.s)))

abbrev pub decreases-read_expr : goal.decreases-read_expr
decreases-read_expr l = l.left * 2

abbrev pub decreases-read_list : goal.decreases-read_list
decreases-read_list l = l.left * 2 + 1
