-- The proof of `parting::mark_into`: brings all that refer to object v, by the field of these links, to the fronts of their classes. By a loop in which z falls, and the laws of Marks.
use Rattle.std.proofs.Common.{◌≡◌, ◌≤◌, length}
use Rattle.canon.proofs.Marks as laws
use Rattle.canon.proofs.parting.mark_into.Given as goal

abbrev pub invariant-loop-z : goal.invariant-loop-z
invariant-loop-z l = (length l.t ≡ length l.initial.t) × (l.j ≤ l.n) × laws.Walking l.n l.m l.links l.v l.initial.t l.t l.z

abbrev pub decreases-loop-z : goal.decreases-loop-z
decreases-loop-z l = l.z
