-- The proof of `bind::bind_all`: the codes of n objects from the start on. By a loop, and the laws of Bindings.
use Rattle.std.proofs.Common.{◌≡◌, ◌≤◌, ◌*◌, length}
use Rattle.canon.specs.Figures.{object_size}
use Rattle.values.specs.Binding.{AllBound}
use Rattle.values.proofs.bind.bind_all.Given as goal

abbrev pub invariant-loop-j : goal.invariant-loop-j
invariant-loop-j l = (l.j ≤ l.n) × (object_size * l.n ≤ length l.raw) × (length l.raw ≡ length l.initial.raw) × AllBound l.initial.raw l.j l.hot l.i l.raw
