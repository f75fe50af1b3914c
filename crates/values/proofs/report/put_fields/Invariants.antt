-- The proof of `report::put_fields`: the fields of the object at a place. By a loop, and the laws of Reports.
use Rattle.std.proofs.Common.{◌≡◌, ◌≤◌, ◌+◌, ◌*◌, length, get_or}
use Rattle.canon.specs.Figures.{code_count}
use Rattle.values.specs.Reporting.{field_text}
use Rattle.values.proofs.Reports.{FieldsTo}
use Rattle.values.proofs.report.put_fields.Given as goal

abbrev pub invariant-loop-f : goal.invariant-loop-f
invariant-loop-f l =
    (l.f ≤ l.n) × (l.n ≡ get_or l.work (l.at + 1) 0) × (l.n ≤ code_count) × (l.t ≤ l.to + field_text * l.f) × (length l.out ≡ length l.initial.out)
    × FieldsTo l.work l.at l.initial.out l.to l.f l.out l.t
