-- The proof of `colours::places`: the places of the first n objects. By a loop, and the laws of Runs.
use Rattle.std.proofs.Common.{◌≡◌, ◌≤◌, length}
use Rattle.canon.specs.Tables.{Filled}
use Rattle.canon.specs.Rounds.{place_is}
use Rattle.canon.proofs.colours.places.Given as goal

abbrev pub invariant-loop-i : goal.invariant-loop-i
invariant-loop-i l = (l.i ≤ l.n) × (length l.next ≡ length l.initial.next) × Filled (λ q. place_is l.looks l.n q) l.i l.next
