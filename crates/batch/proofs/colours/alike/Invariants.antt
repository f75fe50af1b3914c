-- The proof of `colours::alike`: whether parts p and q are alike. By a loop, and the laws of Shades.
use Rattle.std.proofs.Common.{◌≤◌, ◌*◌}
use Rattle.canon.specs.Figures.{object_size, head_size, numbers_at}
use Rattle.canon.specs.Tables.{Plain}
use Rattle.canon.specs.Links.{AlikeTo}
use Rattle.batch.specs.Colouring.{shade_in}
use Rattle.batch.proofs.colours.alike.Given as goal

abbrev pub invariant-loop-j : goal.invariant-loop-j
invariant-loop-j l = (head_size ≤ l.j) × (l.j ≤ numbers_at) × Plain l.parts (object_size * l.p) (object_size * l.q) × AlikeTo (shade_in l.cs) l.parts l.p l.q l.j
