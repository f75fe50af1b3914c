-- The proof of `parting::split_all`: the noted classes parted. By a loop, and the laws of Backs and Parts.
use Rattle.std.proofs.Common.{◌≡◌, ◌≤◌, length}
use Rattle.canon.specs.Parting.{Split}
use Rattle.canon.proofs.parting.split_all.Given as goal

abbrev pub invariant-loop-i : goal.invariant-loop-i
invariant-loop-i l = (length l.t ≡ length l.initial.t) × (l.i ≤ l.k) × Split l.n l.initial.t l.t l.m l.r
