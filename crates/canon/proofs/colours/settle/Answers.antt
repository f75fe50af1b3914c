-- The proof of `colours::settle`: rounds until nothing changes, and the colours then. By a loop, and the laws of Rounds.
use Rattle.std.proofs.Common.{rules, ◌+◌, ◌-◌, ◌*◌, ◌≡◌, ◌∙◌, arith}
use Rattle.canon.proofs.Runs.{pointwise_same}
use Rattle.canon.proofs.Rounds as laws
use Rattle.canon.proofs.colours.settle.Goals as goal

pub loop-k-init : goal.loop-k-init
loop-k-init c = let all : c.args.n * c.args.n + 1 - 0 ≡ c.args.n * c.args.n + 1 = omega arith in
    (search rules, search rules, search rules, search rules, search rules, rw all (laws.going_start _ _ c.requires.0 _ c.requires.1))

pub returns-then-eq : goal.returns-then-eq
returns-then-eq c = laws.settle_still _ _ c.requires.0 _ c.loop-k.invariant.1 _ _ c.loop-k.invariant.5.coarse c.round.ensures (c.eq.ensures ∙ pointwise_same _ _) c.if-eq.true

pub loop-k-preserved : goal.loop-k-preserved
loop-k-preserved c = let raw = c.requires.0 in
    let looks-size = c.round.auto.looks in
    let next-size = c.round.auto.next in
    let copied = laws.copied_is _ _ raw _ _ _ c.copy.ensures (omega (arith, c.loop-k.invariant.1)) (omega (arith, raw.few, c.loop-k.invariant.4, next-size)) c.round.ensures in
    let fewer : c.args.n * c.args.n + 1 - (c.loop-k._k + 1) ≡ c.args.n * c.args.n + 1 - c.loop-k._k - 1 = omega arith in (
      search rules,
      search rules,
      search rules,
      omega (arith, c.loop-k.invariant.3, looks-size),
      omega (arith, c.loop-k.invariant.4, next-size),
      rw fewer (laws.going_more _ _ raw _ c.loop-k.invariant.1 _ copied _ (omega arith) c.loop-k.invariant.5),
    )

pub returns : goal.returns
returns c = laws.settle_done _ _ c.requires.0 _ c.loop-k.invariant.1 _ c.loop-k.invariant.5 (omega arith)
