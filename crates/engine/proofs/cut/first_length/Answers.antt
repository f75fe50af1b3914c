-- The first text, line by line: what is left of it from each line's start on ends there.
use Rattle.std.proofs.Common.{rules}
use Rattle.engine.proofs.CutLaws as laws
use Rattle.engine.proofs.cut.first_length.Goals as goal

pub loop-at-init : goal.loop-at-init
loop-at-init c = (search rules, search laws.zero_before)

pub returns-then-begins : goal.returns-then-begins
returns-then-begins c = search laws.cut_here

pub loop-at-smaller : goal.loop-at-smaller
loop-at-smaller c = search (rules, laws.less_left)

pub loop-at-preserved : goal.loop-at-preserved
loop-at-preserved c = (search laws.end_low, search laws.cut_later)

pub returns : goal.returns
returns c = search laws.cut_never
