-- The proof of `parting::relabel`: the objects at places a to e are of class m. By a loop, and the laws of Relabels.
use Rattle.std.proofs.Common.{◌≡◌, ◌≤◌, length}
use Rattle.canon.specs.Parting.{Relabelled}
use Rattle.canon.proofs.parting.relabel.Given as goal

abbrev pub invariant-loop-p : goal.invariant-loop-p
invariant-loop-p l = (length l.t ≡ length l.initial.t) × (l.a ≤ l.p) × (l.p ≤ l.e) × Relabelled l.n l.initial.t l.a l.p l.m l.t
