-- The proof of `parting::part_looks`: parts the classes by the first object that looks alike, to which these links lead. By a loop, and the laws of Parts.
use Rattle.std.proofs.Common.{◌≡◌, ◌<◌, length}
use Rattle.canon.specs.Parting.{PartedLooks}
use Rattle.canon.proofs.parting.part_looks.Given as goal

abbrev pub invariant-loop-v : goal.invariant-loop-v
invariant-loop-v l = (length l.t ≡ length l.initial.t) × (0 < l.v) × PartedLooks l.n l.links l.initial.t l.t l.m
