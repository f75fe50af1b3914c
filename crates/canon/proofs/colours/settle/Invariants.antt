-- The proof of `colours::settle`: rounds until nothing changes, and the colours then. By a loop, and the laws of Rounds.
use Rattle.std.proofs.Common.{◌≡◌, ◌≤◌, ◌-◌, length}
use Rattle.canon.specs.Figures.{capacity, objects_size}
use Rattle.canon.proofs.Rounds as laws
use Rattle.canon.proofs.colours.settle.Given as goal

abbrev pub invariant-loop-k : goal.invariant-loop-k
invariant-loop-k l = (l._k ≤ l.rounds) × (l.n ≤ length l.cs) × (length l.cs ≡ length l.initial.cs) × (length l.looks ≡ objects_size) × (length l.next ≡ capacity) × laws.Going l.nodes l.n (l.rounds - l._k) l.cs
