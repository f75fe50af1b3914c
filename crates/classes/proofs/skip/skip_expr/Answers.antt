-- `skip::skip_expr` meets its contract: a law of SkipLaws for each way on. The loop keeps where the signs that are left lead.
use Rattle.classes.proofs.SkipLaws as laws
use Rattle.classes.proofs.skip.skip_expr.Goals as goal

pub loop-left-init : goal.loop-left-init
loop-left-init c = search laws.skips_begin

pub returns-then-at-ge-SIZE : goal.returns-then-at-ge-SIZE
returns-then-at-ge-SIZE c = search laws.skip_past

pub returns-then-g-eq0 : goal.returns-then-g-eq0
returns-then-g-eq0 c = laws.skip_none _ _ _ _ c.loop-left.invariant _ c.row_at-g.ensures c.if-g-eq0.true

pub loop-left-preserved : goal.loop-left-preserved
loop-left-preserved c = search laws.skip_next

pub returns : goal.returns
returns c = search laws.skip_done
