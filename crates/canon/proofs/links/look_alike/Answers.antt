-- The proof of `links::look_alike`: whether objects i and j look alike at first. By a loop, and the laws of Looks.
use borrow.Author.Rules.{rules}
use Rattle.canon.proofs.Looks as laws
use Rattle.canon.proofs.links.look_alike.Goals as goal

pub returns-then-not-same_plain : goal.returns-then-not-same_plain
returns-then-not-same_plain c = laws.plain_not _ _ _ _ _ c.same_plain.ensures c.if-not-same_plain.true

pub returns-then-a-b : goal.returns-then-a-b
returns-then-a-b c = search laws.codes_not

pub loop-k-preserved : goal.loop-k-preserved
loop-k-preserved c = (
  search rules,
  search rules,
  c.loop-k.invariant.2,
  laws.codes_more _ _ _ _ _ _ _ c.loop-k.invariant.3 c.loop-k.invariant.0 c.loop-k-test.true c.show-a.ensures c.show-b.ensures c.if-a-b.false,
)
