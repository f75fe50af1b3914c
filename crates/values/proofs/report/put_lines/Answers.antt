-- The proof of `report::put_lines`: the lines of the value in block b. By a loop, and the laws of Reports.
use Rattle.std.proofs.Common.{rules, refl, arith}
use Rattle.canon.specs.Layout.{count_in}
use Rattle.values.proofs.Reports as laws
use Rattle.values.proofs.report.put_lines.Goals as goal

pub loop-j-init : goal.loop-j-init
unfolding count_in
loop-j-init c = (search rules, refl, search rules, laws.lines_none _ _ _)

pub put_line-to-requires : goal.put_line-to-requires
put_line-to-requires c = (
  c.requires.0.packed _ (omega (arith, c.loop-j.invariant.1)),
  omega (arith, c.requires.0.small, c.requires.0.room, c.loop-j.invariant.1),
  omega (arith, c.requires.0.small, c.loop-j.invariant.1, c.loop-j.invariant.3.top),
)

pub loop-j-preserved : goal.loop-j-preserved
loop-j-preserved c = (
  search rules,
  search rules,
  search rules,
  laws.lines_next _ _ c.requires.0 _ _ _ _ _ _ _ c.loop-j.invariant.3 c.requires.1 c.loop-j-test.true c.loop-j.invariant.1 c.put_line-to.ensures,
)

pub returns : goal.returns
returns c = search laws.lines_done
