-- The cycle of typing meets its contracts: a law of StepLaws or WalkLaws where the check needs one. The nesting left falls. The loops keep what the arguments or values
-- that are left give.
use Rattle.std.proofs.Common.{◌≤◌, ◌+◌, ◌-◌, ◌*◌, ◌≡◌, true}
use Rattle.checker.specs.Items.{Parameters, Fields}
use Rattle.checker.specs.Machine.{args_then, args_by, new_then, list_by, type_in}
use Rattle.checker.proofs.+typing.Given as goal

abbrev pub invariant-expr::type_args-loop-k : goal.invariant-expr::type_args-loop-k
invariant-expr::type_args-loop-k l =
    (l.k ≤ l.n)
    × (args_then l.t l.scope.main l.i (list_by l.t (type_in l.t l.left l.scope) (Parameters l.i) l.k (l.n - l.k) true l.a)
    ≡ args_by l.t (type_in l.t l.left l.scope) l.scope.main l.i l.n l.at)

abbrev pub invariant-expr::type_values-loop-k : goal.invariant-expr::type_values-loop-k
invariant-expr::type_values-loop-k l =
    (l.k ≤ l.n)
    × (new_then l.c (list_by l.t (type_in l.t l.left l.scope) (Fields l.c) l.k (l.n - l.k) l.closed l.a)
    ≡ new_then l.c (list_by l.t (type_in l.t l.left l.scope) (Fields l.c) 0 l.n true l.at))

abbrev pub decreases-expr::type_args : goal.decreases-expr::type_args
decreases-expr::type_args l = l.left * 5 + 1

abbrev pub decreases-expr::type_call : goal.decreases-expr::type_call
decreases-expr::type_call l = l.left * 5 + 2

abbrev pub decreases-expr::type_expr : goal.decreases-expr::type_expr
decreases-expr::type_expr l = l.left * 5

abbrev pub decreases-expr::type_field : goal.decreases-expr::type_field
decreases-expr::type_field l = l.left * 5 + 1

abbrev pub decreases-expr::type_new : goal.decreases-expr::type_new
decreases-expr::type_new l = l.left * 5 + 2

abbrev pub decreases-expr::type_parts : goal.decreases-expr::type_parts
decreases-expr::type_parts l = l.left * 5 + 4

abbrev pub decreases-expr::type_values : goal.decreases-expr::type_values
decreases-expr::type_values l = l.left * 5 + 1

abbrev pub decreases-numbers::branches : goal.decreases-numbers::branches
decreases-numbers::branches l = l.left * 5 + 1

abbrev pub decreases-numbers::by_sign : goal.decreases-numbers::by_sign
decreases-numbers::by_sign l = l.left * 5 + 3

abbrev pub decreases-numbers::choose : goal.decreases-numbers::choose
decreases-numbers::choose l = l.left * 5 + 2

abbrev pub decreases-numbers::combine : goal.decreases-numbers::combine
decreases-numbers::combine l = l.left * 5 + 2

abbrev pub decreases-numbers::operand : goal.decreases-numbers::operand
decreases-numbers::operand l = l.left * 5 + 1
