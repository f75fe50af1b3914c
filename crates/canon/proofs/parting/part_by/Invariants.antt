-- The proof of `parting::part_by`: parts the classes by who refers into class s, by each field below w. By a loop, and the laws of Parts.
use Rattle.std.proofs.Common.{◌≡◌, ◌≤◌, length}
use Rattle.canon.specs.Parting.{PartedFields}
use Rattle.canon.proofs.parting.part_by.Given as goal

abbrev pub invariant-loop-f : goal.invariant-loop-f
invariant-loop-f l = (length l.t ≡ length l.initial.t) × (l.f ≤ l.w) × PartedFields l.n l.fields l.initial.t l.t l.m l.r
