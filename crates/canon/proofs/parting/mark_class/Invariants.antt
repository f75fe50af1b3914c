-- The proof of `parting::mark_class`: brings all that refer to an object of class s, by the field of these links, to the fronts of their classes. By a loop, and the laws of Marks and Notes.
use Rattle.std.proofs.Common.{◌≡◌, ◌≤◌, length}
use Rattle.canon.specs.Rows.{row_at}
use Rattle.canon.specs.Parting.{Brought, SameNotes}
use Rattle.canon.proofs.Marks as laws
use Rattle.canon.proofs.parting.mark_class.Given as goal

abbrev pub invariant-loop-p : goal.invariant-loop-p
invariant-loop-p l =
    (length l.t ≡ length l.initial.t) × ((row_at l.initial.t l.s).begin ≤ l.p) × (l.k ≤ l.n)
    × Brought l.n l.m l.initial.t l.t (laws.Seen l.links l.initial.t l.s l.p) × SameNotes l.n l.initial.t l.t
