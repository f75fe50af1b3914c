-- The proof of `links::group`: hangs the rows up by their looks. By a loop, and the laws of Looks.
use Rattle.std.proofs.Common.{rules, ◌∙◌, refl, arith}
use Rattle.canon.proofs.Looks as laws
use Rattle.canon.proofs.links.group.Goals as goal

pub bounds-last-h : goal.bounds-last-h
bounds-last-h c = omega (arith, laws.hash_small _ _ _ c.hash-h.ensures)

pub like_before-r-requires : goal.like_before-r-requires
like_before-r-requires c =
    laws.group_sought _ _ _ _ _ _ _ c.requires.0 c.loop-x.invariant.6 c.loop-x.invariant.3 c.loop-x-test.true (omega arith) c.loop-x.invariant.5
    c.loop-x.invariant.7 c.hash-h.ensures

pub bounds-last-h-in-loop-x : goal.bounds-last-h-in-loop-x
bounds-last-h-in-loop-x c = omega (arith, laws.hash_small _ _ _ c.hash-h.ensures)

pub loop-x-preserved : goal.loop-x-preserved
loop-x-preserved c = (
  search rules,
  c.hang.ensures.size ∙ c.loop-x.invariant.1,
  search rules,
  search rules,
  search rules,
  laws.chain_more _ _ _ _ _ _ _ c.loop-x.invariant.5 c.loop-x.invariant.3 c.loop-x-test.true (omega arith) (omega arith) c.hash-h.ensures refl,
  c.hang.ensures.hung,
  laws.group_more _ _ _ _ _ _ c.loop-x.invariant.7 c.like_before-r.ensures c.hang.ensures,
)
