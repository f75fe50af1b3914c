-- The proof of `lines::spare_fields`. By a loop, and the laws of PutFields.
use Rattle.std.proofs.Common.{◌≡◌, ◌≤◌, length}
use Rattle.batch.specs.Figures.{field_room}
use Rattle.batch.specs.Layout.{SparedTo}
use Rattle.batch.proofs.lines.spare_fields.Given as goal

abbrev pub invariant-loop-f : goal.invariant-loop-f
invariant-loop-f l = (l.m ≤ l.f) × (l.f ≤ field_room) × (length l.parts ≡ length l.initial.parts) × SparedTo l.initial.parts l.at l.m l.f l.parts
