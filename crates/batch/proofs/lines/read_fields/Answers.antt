-- The proof of `lines::read_fields`. By a loop, which keeps `FieldsTaken`: the fields so far lie in their places.
use Rattle.std.proofs.Common.{rules, arith}
use Rattle.batch.proofs.ReadFields as laws
use Rattle.batch.proofs.lines.read_fields.Goals as goal

pub returns-in_err-q : goal.returns-in_err-q
returns-in_err-q c =
    rw c.from_residual.ensures
    (laws.fields_bad _ _ _ _ _ _ _ c.loop-f.invariant.2 _ _ (rw c.from.ensures at c.read_field.ensures) _ c.loop-f-test.true c.in_err-q.was)

pub loop-f-preserved : goal.loop-f-preserved
loop-f-preserved c = (
  search rules,
  search rules,
  laws.fields_more _ _ _ _ _ _ _ c.loop-f.invariant.2 _ _ (rw c.from.ensures at c.read_field.ensures)
      (omega (arith, c.loop-f-test.true, c.requires.1)) _ c.in_ok-q.was,
)
