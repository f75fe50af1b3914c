-- The proof of `colours::alike`: whether parts p and q are alike. By a loop, and the laws of Shades.
use Rattle.std.proofs.Common.{rules}
use Rattle.canon.proofs.Looks.{codes_more}
use Rattle.batch.proofs.Shades as laws
use Rattle.batch.proofs.colours.alike.Goals as goal

pub returns-then-not-same_plain : goal.returns-then-not-same_plain
returns-then-not-same_plain c = search laws.test_plain

pub returns-then-a-b : goal.returns-then-a-b
returns-then-a-b c = search laws.test_not

pub loop-j-preserved : goal.loop-j-preserved
loop-j-preserved c = (
  search rules,
  search rules,
  c.loop-j.invariant.2,
  codes_more _ _ _ _ _ _ _ c.loop-j.invariant.3 c.loop-j.invariant.0 c.loop-j-test.true c.shade-a.ensures c.shade-b.ensures c.if-a-b.false,
)
