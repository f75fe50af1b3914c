-- The proof of `colours::place`: the first object that looks as object i does. By a loop, and the laws of Places.
use Rattle.std.proofs.Common.{◌≡◌, ◌≤◌, ◌-◌, ◌+◌, ◌*◌}
use Rattle.cofj.specs.Values.{place_of}
use Rattle.canon.specs.Figures.{object_size}
use Rattle.canon.specs.Layout.{node_in, nodes_in}
use Rattle.canon.specs.Rounds.{place_is}
use Rattle.canon.proofs.colours.place.Given as goal

abbrev pub invariant-loop-j : goal.invariant-loop-j
invariant-loop-j l = (l.j ≤ l.i) × (place_is l.looks l.n l.i ≡ l.j + place_of (node_in l.looks (object_size * l.i)) (nodes_in l.looks (object_size * l.j) (l.n - l.j)))
