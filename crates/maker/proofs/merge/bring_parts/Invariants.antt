-- The proof of `merge::bring_parts`: the codes of the n parts in block host. By the laws of Brings.
use Rattle.std.proofs.Common.{◌≤◌, ◌≡◌, length}
use Rattle.maker.specs.Merging.{Grown, RootBrought}
use Rattle.maker.proofs.merge.bring_parts.Given as goal

abbrev pub invariant-loop-i : goal.invariant-loop-i
invariant-loop-i l =
    (l.i ≤ l.n) × (length l.work ≡ length l.initial.work) × Grown l.host l.initial.work l.work
    × RootBrought l.initial.work l.parts l.n l.i l.work l.host l.w
