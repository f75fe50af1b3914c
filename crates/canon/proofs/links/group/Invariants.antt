-- The proof of `links::group`: hangs the rows up by their looks. By a loop, and the laws of Looks.
use Rattle.std.proofs.Common.{◌≡◌, ◌≤◌, ◌<◌, length}
use Rattle.canon.specs.Links.{Chained, Hung, Grouped}
use Rattle.canon.proofs.links.group.Given as goal

abbrev pub invariant-loop-x : goal.invariant-loop-x
invariant-loop-x l =
    (length l.t ≡ length l.initial.t) × (length l.links ≡ length l.initial.links) × (length l.last ≡ length l.initial.last) × (0 < l.x) × (l.x ≤ l.n)
    × Chained l.raw l.x l.last l.t × Hung l.n l.x l.links × Grouped l.raw l.x l.links
