-- The proof of `lockstep::step_fields`: meets the fields of object x of block b and of its partner y of block c. By a loop, and the laws of Partners.
use Rattle.std.proofs.Common.{rules}
use Rattle.values.proofs.Partners as laws
use Rattle.values.proofs.lockstep.step_fields.Goals as goal

pub step_code-requires : goal.step_code-requires
step_code-requires c = search laws.code_fits

pub returns-in_err-t : goal.returns-in_err-t
returns-in_err-t c =
    rw c.from_residual.ensures (laws.fields_differ _ _ _ _ _ _ _ _ _ _ _ _ c.loop-k.invariant.4 c.loop-k-test.true _ _ _ _ _ c.two_at-m.ensures.is c.two_at-n.ensures.is
    c.step_code.ensures c.in_err-t.was)

pub loop-k-preserved : goal.loop-k-preserved
loop-k-preserved c = (
  search rules,
  search rules,
  search rules,
  search rules,
  laws.fields_more _ _ _ _ _ _ _ _ _ _ _ _ c.loop-k.invariant.4 c.loop-k-test.true _ _ _ _ _ c.two_at-m.ensures.is c.two_at-n.ensures.is
      c.step_code.ensures _ c.in_ok-t.was,
)
