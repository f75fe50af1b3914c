-- The proof of `number::numbers`: the number of each of n objects. By a loop, and the laws of Runs.
use Rattle.std.proofs.Common.{◌≡◌, ◌≤◌, length, get_or}
use Rattle.canon.specs.Tables.{Filled}
use Rattle.canon.specs.Numbers.{number_in}
use Rattle.canon.proofs.number.numbers.Given as goal

abbrev pub invariant-loop-i : goal.invariant-loop-i
invariant-loop-i l = (l.i ≤ l.n) × (length l.to ≡ length l.initial.to) × Filled (λ q. number_in l.met l.m (get_or l.cs q 0)) l.i l.to
