-- The proof of `leads::look_same`: whether objects i and j look alike by their colours. By a loop, and the laws of Looks.
use Rattle.std.proofs.Common.{◌≤◌, ◌*◌}
use Rattle.canon.specs.Figures.{object_size, head_size, numbers_at}
use Rattle.canon.specs.Tables.{Plain, copied}
use Rattle.canon.specs.Links.{AlikeTo}
use Rattle.canon.proofs.leads.look_same.Given as goal

abbrev pub invariant-loop-k : goal.invariant-loop-k
invariant-loop-k l = (head_size ≤ l.k) × (l.k ≤ numbers_at) × Plain l.nodes (object_size * l.i) (object_size * l.j) × AlikeTo (copied l.cs) l.nodes l.i l.j l.k
