-- The proof of `reach::reach`: lists object i of block src and what it leads to, nearest first. By a loop in which capacity - head falls, and the laws of Reaches.
use Rattle.std.proofs.Common.{◌≤◌, ◌-◌, ◌≡◌, length}
use Rattle.canon.specs.Figures.{capacity}
use Rattle.maker.specs.Reaching.{ReachedTo}
use Rattle.maker.proofs.reach.reach.Given as goal

abbrev pub invariant-loop-head : goal.invariant-loop-head
invariant-loop-head l =
    (l.tail ≤ capacity) × (length l.list ≡ length l.initial.list) × (length l.seen ≡ length l.initial.seen)
    × ReachedTo l.work l.src l.i l.seen l.list l.tail l.head

abbrev pub decreases-loop-head : goal.decreases-loop-head
decreases-loop-head l = capacity - l.head
