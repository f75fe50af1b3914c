-- Expressions nested at most n deep, whose names are bytes and whose numbers have two: what refusal 2 leaves of a line. Not here: what else reading makes sure of (WellFormed).
use Rattle.std.specs.Prelude.{ℕ, zero, suc, ◌<◌}
use Rattle.cofj.specs.Limits.{number_count}
use Rattle.cofj.specs.Syntax.{Expr, this, res, param, field, call, new, literal, combine, choose, Exprs, done, also}

abbrev pub Each : (Expr → Type 0) → Exprs → Type 0
Each P done = Unit {0}
Each P (also e es) = P e × Each P es

abbrev pub Parts : (Expr → Type 0) → Expr → Type 0
Parts P this = Unit {0}
Parts P res = Unit {0}
Parts P (param k) = Unit {0}
Parts P (field f e) = P e
Parts P (call m e es) = (m < 256) × P e × Each P es
Parts P (new c es) = Each P es
Parts P (literal n) = n < number_count
Parts P (combine o a b) = P a × P b
Parts P (choose c a b) = P c × P a × P b

unfoldable pub Nested : ℕ → Expr → Type 0
Nested zero e = ⊥
Nested (suc n) e = Parts (Nested n) e
