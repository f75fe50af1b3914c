-- The proof of `merge::lay_part`: part p as object c. By a loop, and the laws of Layings.
use Rattle.std.proofs.Common.{◌≡◌, ◌≤◌, length}
use Rattle.canon.specs.Figures.{head_size, numbers_at}
use Rattle.batch.specs.Laying.{PartLaid}
use Rattle.batch.proofs.merge.lay_part.Given as goal

abbrev pub invariant-loop-j : goal.invariant-loop-j
invariant-loop-j l = (head_size ≤ l.j) × (l.j ≤ numbers_at) × (length l.raw ≡ length l.initial.raw) × PartLaid l.parts l.cs l.p l.initial.raw l.c l.j l.raw
