-- The proof of `links::refer_field`: hangs the rows up by field f. By a loop in which n - x falls, and the laws of Refers.
use Rattle.std.proofs.Common.{rules, arith}
use Rattle.canon.proofs.Refers as laws
use Rattle.canon.proofs.links.refer_field.Goals as goal

pub hang-requires : goal.hang-requires
hang-requires c = (
  c.loop-x.invariant.3.hung,
  search rules,
  search rules,
  laws.target_low _ _ _ _ _ c.requires.0 c.requires.1 (omega arith) c.requires.2 c.target_row-v.ensures,
)
