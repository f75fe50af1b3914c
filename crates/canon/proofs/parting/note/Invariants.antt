-- The proof of `parting::note`: notes the objects of class s. By a loop, and the laws of Notes.
use Rattle.std.proofs.Common.{◌≡◌, ◌≤◌, length}
use Rattle.canon.specs.Rows.{row_at}
use Rattle.canon.specs.Parting.{Noted}
use Rattle.canon.proofs.parting.note.Given as goal

abbrev pub invariant-loop-p : goal.invariant-loop-p
invariant-loop-p l = (length l.t ≡ length l.initial.t) × ((row_at l.initial.t l.s).begin ≤ l.p) × Noted l.initial.t l.s l.p l.t
