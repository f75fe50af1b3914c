-- The proof of `parting::begin`: n objects in one class. By a loop, and the laws of Parts.
use Rattle.std.proofs.Common.{◌≡◌, ◌≤◌, length}
use Rattle.canon.proofs.Parts as laws
use Rattle.canon.proofs.parting.begin.Given as goal

abbrev pub invariant-loop-x : goal.invariant-loop-x
invariant-loop-x l = (length l.t ≡ length l.initial.t) × (l.x ≤ l.n) × laws.Started l.x l.t
