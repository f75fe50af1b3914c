-- A field selected: a law for each return.
use Rattle.std.proofs.Common.{arith}
use Rattle.values.proofs.Selecting as laws
use Rattle.values.proofs.refs.select.Goals as goal

pub returns-in_default : goal.returns-in_default
returns-in_default c = search laws.select_leaf

pub returns-then-work-at : goal.returns-then-work-at
returns-then-work-at c = search laws.select_past

pub returns : goal.returns
returns c = laws.select_code _ _ c.args.f _ _ c.requires c.in-Object.is c.if-work-at.false (λ k. omega (arith, c.type_inv.work k)) _ c.two_at-n.ensures.is _ c.ref_of.ensures
