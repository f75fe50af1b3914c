-- The proof of `links::refer_field`: hangs the rows up by field f. By a loop, and the laws of Refers.
use Rattle.std.proofs.Common.{◌≡◌, ◌≤◌, ◌<◌, length}
use Rattle.canon.specs.Links.{ReferredTo}
use Rattle.canon.proofs.links.refer_field.Given as goal

abbrev pub invariant-loop-x : goal.invariant-loop-x
invariant-loop-x l = (length l.links ≡ length l.initial.links) × (0 < l.x) × (l.x ≤ l.n) × ReferredTo l.raw l.n l.f l.x l.initial.links l.links
