-- The proof of `report::put_fields`: the fields of the object at a place. By a loop, and the laws of Reports.
use Rattle.std.proofs.Common.{rules}
use Rattle.values.proofs.Reports as laws
use Rattle.values.proofs.report.put_fields.Goals as goal

pub loop-f-init : goal.loop-f-init
loop-f-init c = (search rules, search rules, search laws.fields_four, search rules, search rules, laws.fields_none _ _ _ _)

pub loop-f-preserved : goal.loop-f-preserved
loop-f-preserved c = (
  search rules,
  search rules,
  search rules,
  search rules,
  search rules,
  laws.fields_next _ _ c.requires.0 _ _ _ _ _ c.loop-f.invariant.5 _ _ _ c.loop-f-test.true c.loop-f.invariant.1 c.put_field-t.ensures.0,
)

pub returns : goal.returns
returns c = (laws.fields_done _ _ c.requires.0 _ _ _ _ _ c.loop-f.invariant.5 _ c.loop-f.invariant.0 c.loop-f-test.false c.loop-f.invariant.1, search rules)
