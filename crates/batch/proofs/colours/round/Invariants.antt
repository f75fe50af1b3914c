-- The proof of `colours::round`: one round over the listed parts. By a loop, and the laws of Colourings.
use Rattle.std.proofs.Common.{◌≤◌, ◌≡◌, length}
use Rattle.canon.specs.Figures.{capacity}
use Rattle.batch.specs.Colouring.{RoundTo}
use Rattle.batch.proofs.colours.round.Given as goal

abbrev pub invariant-loop-i : goal.invariant-loop-i
invariant-loop-i l =
    (l.i ≤ l.m) × (l.k ≤ l.top) × (l.top ≤ capacity) × (length l.next ≡ 256) × (length l.lead ≡ capacity)
    × RoundTo l.parts l.list l.m l.cs l.k l.next l.lead l.top l.i
