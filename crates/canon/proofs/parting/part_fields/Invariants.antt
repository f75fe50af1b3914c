-- The proof of `parting::part_fields`: parts the classes by who refers into them, the new ones too. By a loop in which n - s falls, and the laws of Parts.
use Rattle.std.proofs.Common.{◌≡◌, ◌≤◌, ◌-◌, ◌+◌, length}
use Rattle.canon.specs.Parting.{PartedFields}
use Rattle.canon.proofs.parting.part_fields.Given as goal

abbrev pub invariant-loop-s : goal.invariant-loop-s
invariant-loop-s l = (length l.t ≡ length l.initial.t) × (l.s ≤ l.n + 1) × PartedFields l.n l.fields l.initial.t l.t l.m l.r

abbrev pub decreases-loop-s : goal.decreases-loop-s
decreases-loop-s l = l.n - l.s
