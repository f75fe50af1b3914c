-- The proof of `colours::round`: one round over the listed parts. By a loop, and the laws of Colourings.
use Rattle.std.proofs.Common.{rules, ◌+◌, ◌≤◌, arith, ◌≡◌, length, get_or, set, length-set}
use Rattle.canon.specs.Figures.{capacity}
use Rattle.batch.specs.Colouring.{RoundTo}
use Rattle.batch.proofs.Colourings as laws
use Rattle.batch.proofs.colours.round.Goals as goal
use Rattle.batch.proofs.colours.round.Goals.{then-c-top+else-top-ge-CAPACITY, else-c-top}

pub returns-then-top-ge-CAPACITY : goal.returns-then-top-ge-CAPACITY
returns-then-top-ge-CAPACITY c = search laws.round_many

pub loop-i-preserved : goal.loop-i-preserved
loop-i-preserved c =
    let r : (c.args.k ≤ c.if-c-top.top) × (c.if-c-top.top ≤ capacity) × (length c.if-c-top.lead ≡ capacity)
    × RoundTo c.args.parts.now c.args.list.now c.args.m c.args.cs.now c.args.k (set c.loop-i.next (get_or c.args.list.now c.loop-i.i 0) c.next_colour-c.result) c.if-c-top.lead c.if-c-top.top (c.loop-i.i + 1) =
    elim c.if-c-top.branch [
      | then-c-top+else-top-ge-CAPACITY w ↦
          let e = w.if-c-top.true in
          let few = w.if-top-ge-CAPACITY.false in
          rw (w.lead-is, w.top-is) (omega arith, omega arith, simp length-set (omega arith), search laws.round_new)
      | else-c-top w ↦ let e = w.if-c-top.false in rw (w.lead-is, w.top-is) (omega arith, omega arith, omega arith, search laws.round_old)
    ] in
    (search rules, r.0, r.1, simp length-set (omega arith), r.2, r.3)

pub returns : goal.returns
returns c = search laws.round_done
