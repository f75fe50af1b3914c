-- The proof of `leads::look_same`: whether objects i and j look alike by their colours. By a loop, and the laws of Looks.
use borrow.Author.Rules.{rules}
use native.Mathlib.Omega.{arith}
use Rattle.canon.proofs.Looks as laws
use Rattle.canon.proofs.leads.look_same.Goals as goal

pub returns-then-not-same_plain : goal.returns-then-not-same_plain
returns-then-not-same_plain c = laws.plain_not _ _ _ _ _ c.same_plain.ensures c.if-not-same_plain.true

pub returns-then-a-b : goal.returns-then-a-b
returns-then-a-b c = laws.codes_not _ _ _ _ _ _ _ c.loop-k.invariant.3 c.loop-k.invariant.0 (omega (arith, c.loop-k-test.true)) c.turn-a.ensures c.turn-b.ensures c.if-a-b.true

pub loop-k-preserved : goal.loop-k-preserved
loop-k-preserved c = (
  search rules,
  search rules,
  c.loop-k.invariant.2,
  laws.codes_more _ _ _ _ _ _ _ c.loop-k.invariant.3 c.loop-k.invariant.0 (omega (arith, c.loop-k-test.true)) c.turn-a.ensures c.turn-b.ensures
      c.if-a-b.false,
)
