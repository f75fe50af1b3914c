-- The proof of `value::copy_block`: the objects of block b, to block `dst`, which may be b. By a loop, and the laws of Copies.
use Rattle.std.proofs.Common.{◌≡◌, ◌≤◌, length}
use Rattle.canon.specs.Figures.{objects_size}
use Rattle.values.proofs.Copies.{CopyLoop}
use Rattle.values.proofs.value.copy_block.Given as goal

abbrev pub invariant-loop-q : goal.invariant-loop-q
invariant-loop-q l = (l.q ≤ l.p) × (l.p ≤ objects_size) × (length l.work ≡ length l.initial.work) × CopyLoop l.initial.work l.b l.dst l.n l.l l.m l.p l.q l.work
