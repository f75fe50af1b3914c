-- The proof of `colours::colour`: the colours of the listed parts. By a loop in which capacity - k falls, and the laws of Colourings.
use Rattle.std.proofs.Common.{◌≤◌, ◌-◌, ◌≡◌, length}
use Rattle.canon.specs.Figures.{capacity}
use Rattle.batch.specs.Colouring.{Coloured}
use Rattle.batch.proofs.colours.colour.Given as goal

abbrev pub invariant-loop-top : goal.invariant-loop-top
invariant-loop-top l = (l.k ≤ capacity) × (length l.cs ≡ 256) × (length l.lead ≡ capacity) × (length l.next ≡ 256) × Coloured l.parts l.list l.m l.cs l.lead l.k

abbrev pub decreases-loop-top : goal.decreases-loop-top
decreases-loop-top l = capacity - l.k
