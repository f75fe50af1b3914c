-- The proof of `place::copy`. The bytes of a line from a place on, written into the table: so many are written, the others are as they were. By the laws of PlaceLaws.
use Rattle.std.proofs.Common.{◌≡◌, ◌-◌, ◌+◌, drop}
use Rattle.std.proofs.Math.Seq.{sets}
use Rattle.classes.proofs.place.copy.Given as goal

abbrev pub invariant-loop-i : goal.invariant-loop-i
invariant-loop-i l = sets l.t (l.to + l.i - l.from) (drop l.i l.l) ≡ sets l.initial.t l.to (drop l.from l.l)
