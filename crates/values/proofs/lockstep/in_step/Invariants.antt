-- The proof of `lockstep::in_step`: the objects of the queue and their partners met. By a loop in which capacity - head falls, and the laws of Queues.
use Rattle.std.proofs.Common.{◌≡◌, ◌≤◌, ◌-◌, length}
use Rattle.canon.specs.Figures.{capacity}
use Rattle.values.specs.Stepping.{PairsSoFar}
use Rattle.values.proofs.lockstep.in_step.Given as goal

abbrev pub invariant-loop-head : goal.invariant-loop-head
invariant-loop-head l =
    (l.tail ≤ capacity) × (length l.partner ≡ length l.initial.partner) × (length l.queue ≡ length l.initial.queue)
    × PairsSoFar l.work l.b l.c l.initial.partner l.initial.queue l.partner l.queue l.tail l.head

abbrev pub decreases-loop-head : goal.decreases-loop-head
decreases-loop-head l = capacity - l.head
