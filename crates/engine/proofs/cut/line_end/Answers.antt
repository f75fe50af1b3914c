-- The end of a line: what is left of it from each place on ends there.
use Rattle.std.proofs.Common.{rules, refl}
use Rattle.engine.proofs.CutLaws as laws
use Rattle.engine.proofs.cut.line_end.Goals as goal

pub loop-i-init : goal.loop-i-init
loop-i-init c = (search rules, refl)

pub returns-then-text-i-eq10 : goal.returns-then-text-i-eq10
returns-then-text-i-eq10 c = search laws.line_stops

pub loop-i-preserved : goal.loop-i-preserved
loop-i-preserved c = (search rules, search laws.line_more)

pub returns : goal.returns
returns c = search laws.line_over
