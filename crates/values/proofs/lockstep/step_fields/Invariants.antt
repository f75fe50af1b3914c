-- The proof of `lockstep::step_fields`: meets the fields of object x of block b and of its partner y of block c. By a loop, and the laws of Partners.
use Rattle.std.proofs.Common.{◌≡◌, ◌≤◌, length}
use Rattle.canon.specs.Figures.{code_count}
use Rattle.values.specs.Stepping.{FieldsSoFar}
use Rattle.values.proofs.lockstep.step_fields.Given as goal

abbrev pub invariant-loop-k : goal.invariant-loop-k
invariant-loop-k l =
    (l.k ≤ l.count) × (l.count ≤ code_count) × (length l.partner ≡ length l.initial.partner) × (length l.queue ≡ length l.initial.queue)
    × FieldsSoFar l.work l.b l.x l.c l.y l.initial.partner l.initial.queue l.tail l.partner l.queue l.t l.k
