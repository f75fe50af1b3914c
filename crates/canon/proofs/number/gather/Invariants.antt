-- The proof of `number::gather`: the objects that the order lists, renamed by the table, from a place of `dst` on. By a loop, and the laws of Gathers.
use Rattle.std.proofs.Common.{◌≡◌, ◌≤◌, length}
use Rattle.canon.specs.Figures.{object_size}
use Rattle.canon.specs.Numbers.{Gathered}
use Rattle.canon.proofs.number.gather.Given as goal

abbrev pub invariant-loop-j : goal.invariant-loop-j
invariant-loop-j l = (l.j ≤ l.m) × (length l.dst ≡ length l.initial.dst) × (length l.object ≡ object_size) × Gathered l.nodes l.order l.j l.table l.initial.dst l.to l.dst
