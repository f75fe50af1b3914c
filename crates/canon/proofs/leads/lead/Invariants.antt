-- The proof of `leads::lead`: the first object of the class of each of n objects. By a loop, and the laws of Firsts.
use Rattle.std.proofs.Common.{◌≡◌, ◌≤◌, length}
use Rattle.canon.proofs.Firsts as laws
use Rattle.canon.proofs.leads.lead.Given as goal

abbrev pub invariant-loop-i : goal.invariant-loop-i
invariant-loop-i l = (length l.t ≡ length l.initial.t) × (length l.cs ≡ length l.initial.cs) × (l.i ≤ l.n) × laws.Led l.initial.t l.t l.i l.cs
