-- The proof of `reach::reach`: lists part 0 and what it leads to, nearest first. By a loop in which number_field - head falls, and the laws of Reaches.
use Rattle.std.proofs.Common.{◌≤◌, ◌-◌, ◌≡◌, length}
use Rattle.batch.specs.Figures.{number_field}
use Rattle.batch.specs.Reaching.{ReachedTo}
use Rattle.batch.proofs.reach.reach.Given as goal

abbrev pub invariant-loop-head : goal.invariant-loop-head
invariant-loop-head l = (l.tail ≤ number_field) × (length l.list ≡ length l.initial.list) × (length l.seen ≡ length l.initial.seen) × ReachedTo l.parts l.seen l.list l.tail l.head

abbrev pub decreases-loop-head : goal.decreases-loop-head
decreases-loop-head l = number_field - l.head
