-- The proof of `leads::lead`: the first object of the class of each of n objects. By a loop, and the laws of Firsts.
use Rattle.std.proofs.Common.{rules, arith}
use Rattle.canon.proofs.Firsts as laws
use Rattle.canon.proofs.leads.lead.Goals as goal
use Rattle.canon.proofs.leads.lead.Goals.{then-known, else-known}

pub loop-i-preserved : goal.loop-i-preserved
loop-i-preserved c = (
  search rules,
  search rules,
  search rules,
  elim c.if-known.branch [
    | then-known w ↦ rw (w.t-is, w.cs-is) (laws.lead_met _ _ _ _ c.loop-i.invariant.3 (omega arith) _ c.known.ensures w.if-known.true)
    | else-known w ↦
        rw (w.t-is, w.cs-is) (laws.lead_new _ _ _ _ c.loop-i.invariant.3 (omega arith) _ c.known.ensures w.if-known.false
        (omega (arith, laws.lead_class _ _ _ _ _ _ c.requires.0 c.loop-i.invariant.3 (omega arith))))
  ],
)
