-- The proof of `parting::split_all`: the noted classes parted. By a loop, and the laws of Backs and Parts.
use Rattle.std.proofs.Common.{rules}
use Rattle.canon.proofs.Parts as laws
use Rattle.canon.proofs.parting.split_all.Goals as goal
use Rattle.canon.proofs.parting.split_all.Goals.{then-d-r, else-d-r}
use Rattle.canon.specs.Parting.{Split}

pub loop-i-preserved : goal.loop-i-preserved
loop-i-preserved c =
    let s : Split c.args.n c.args.t.now c.if-d-r.t c.args.m c.if-d-r.r =
    elim c.if-d-r.branch [
      | then-d-r w ↦ rw (w.t-is, w.r-is) (laws.split_then _ _ _ _ _ _ _ c.loop-i.invariant.2 w.split-r.ensures)
      | else-d-r w ↦ rw (w.t-is, w.r-is) c.loop-i.invariant.2
    ] in
    (s.same, search rules, s)
