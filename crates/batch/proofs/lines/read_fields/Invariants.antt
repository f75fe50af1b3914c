-- The proof of `lines::read_fields`. By a loop, which keeps `FieldsTaken`: the fields so far lie in their places.
use Rattle.std.proofs.Common.{◌≡◌, ◌≤◌, length}
use Rattle.batch.specs.Reading.{FieldsTaken}
use Rattle.batch.proofs.lines.read_fields.Given as goal

abbrev pub invariant-loop-f : goal.invariant-loop-f
invariant-loop-f l = (l.f ≤ l.m) × (length l.parts ≡ length l.initial.parts) × FieldsTaken l.line l.n l.initial.parts l.at l.parts l.f l.q
