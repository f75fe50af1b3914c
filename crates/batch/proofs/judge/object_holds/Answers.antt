-- `judge::object_holds` meets its contract: a loop in which the fields left fall, and the laws of Judges.
use Rattle.std.proofs.Common.{rules}
use Rattle.batch.proofs.Judges as laws
use Rattle.batch.proofs.judge.object_holds.Goals as goal

pub field_holds-requires : goal.field_holds-requires
field_holds-requires c = search laws.code_coded

pub returns-then-not-field_holds : goal.returns-then-not-field_holds
returns-then-not-field_holds c = search laws.object_not

pub loop-f-preserved : goal.loop-f-preserved
loop-f-preserved c = (search rules, laws.fields_more _ _ _ c.requires _ _ c.loop-f.invariant.1 c.field_holds.ensures c.if-not-field_holds.false)

pub returns : goal.returns
returns c = search laws.object_done
