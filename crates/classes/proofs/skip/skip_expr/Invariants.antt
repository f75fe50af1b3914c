-- `skip::skip_expr` meets its contract: a law of SkipLaws for each way on. The loop keeps where the signs that are left lead.
use Rattle.std.proofs.Common.{◌-◌}
use Rattle.classes.specs.Figures.{table_size}
use Rattle.classes.proofs.SkipLaws.{Skips}
use Rattle.classes.proofs.skip.skip_expr.Given as goal

abbrev pub invariant-loop-left : goal.invariant-loop-left
invariant-loop-left l = Skips l.t l.from l.left l.at

abbrev pub decreases-loop-left : goal.decreases-loop-left
decreases-loop-left l = table_size - l.at
