-- The cycle of typing meets its contracts: what the check does not find alone. A law of StepLaws or WalkLaws at each.
use Rattle.std.proofs.Common.{rules, ◌∙◌, sym}
use Rattle.checker.proofs.StepLaws as steps
use Rattle.checker.proofs.WalkLaws as laws
use Rattle.checker.proofs.+typing.Goals as goal

pub expr::type_expr-returns-then-left-eq0 : goal.expr::type_expr-returns-then-left-eq0
expr::type_expr-returns-then-left-eq0 t c = search steps.at_zero

pub expr::type_expr-returns-then-at-ge-SIZE : goal.expr::type_expr-returns-then-at-ge-SIZE
expr::type_expr-returns-then-at-ge-SIZE t c = search steps.at_past

pub expr::type_expr-returns-then-is_variable : goal.expr::type_expr-returns-then-is_variable
expr::type_expr-returns-then-is_variable t c = search steps.at_var

pub expr::type_expr-returns : goal.expr::type_expr-returns
expr::type_expr-returns t c = search steps.at_parts

pub expr::type_args-returns-then-not-arg_fits : goal.expr::type_args-returns-then-not-arg_fits
expr::type_args-returns-then-not-arg_fits t c = laws.args_unfit _ _ _ _ _ _ _ _ c.loop-k.invariant.1 c.loop-k-test.true _ (sym c.type_expr.ensures ∙ c.in_ok-o.was) _ c.arg_fits.ensures c.if-not-arg_fits.true

pub expr::type_args-loop-k-preserved : goal.expr::type_args-loop-k-preserved
expr::type_args-loop-k-preserved t c =
    (search rules, laws.args_next _ _ _ _ _ _ _ _ c.loop-k.invariant.1 c.loop-k-test.true _ (sym c.type_expr.ensures ∙ c.in_ok-o.was) _ c.arg_fits.ensures c.if-not-arg_fits.false)

pub expr::type_values-loop-k-preserved : goal.expr::type_values-loop-k-preserved
expr::type_values-loop-k-preserved t c = (
  search rules,
  laws.values_next _ _ _ _ _ _ _ _ c.loop-k.invariant.1 c.loop-k-test.true _ (sym c.type_expr.ensures ∙ c.in_ok-o.was) _ c.value_fits.ensures _ c.if-not-value_fits.false c.stays_closed-closed.ensures,
)
