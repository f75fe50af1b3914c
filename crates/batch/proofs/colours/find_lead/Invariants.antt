-- The proof of `colours::find_lead`: the first colour from c on whose leading part is alike p. By a loop, and the laws of Shades.
use Rattle.std.proofs.Common.{◌≤◌}
use Rattle.batch.specs.Colouring.{FirstAlike}
use Rattle.batch.proofs.colours.find_lead.Given as goal

abbrev pub invariant-loop-d : goal.invariant-loop-d
invariant-loop-d l = (l.d ≤ l.top) × FirstAlike l.parts l.cs l.lead l.c l.d l.p l.d
