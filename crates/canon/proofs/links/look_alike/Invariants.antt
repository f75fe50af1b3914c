-- The proof of `links::look_alike`: whether objects i and j look alike at first. By a loop, and the laws of Looks.
use Rattle.std.proofs.Common.{◌≤◌, ◌*◌}
use Rattle.canon.specs.Figures.{object_size, head_size, numbers_at}
use Rattle.canon.specs.Tables.{Plain}
use Rattle.canon.specs.Links.{shown, AlikeTo}
use Rattle.canon.proofs.links.look_alike.Given as goal

abbrev pub invariant-loop-k : goal.invariant-loop-k
invariant-loop-k l = (head_size ≤ l.k) × (l.k ≤ numbers_at) × Plain l.raw (object_size * l.i) (object_size * l.j) × AlikeTo shown l.raw l.i l.j l.k
