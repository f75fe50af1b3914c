-- The proof of `bind::unreferred`: whether none of the n objects of block b refers to object i. By a loop, and the laws of Referring.
use Rattle.std.proofs.Common.{◌≤◌, ◌≡◌, true}
use Rattle.values.specs.Binding.{none_refer}
use Rattle.values.proofs.bind.unreferred.Given as goal

abbrev pub invariant-loop-k : goal.invariant-loop-k
invariant-loop-k l = (l.k ≤ l.n) × (none_refer l.work l.b l.k l.i ≡ true)
