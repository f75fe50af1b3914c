-- The proof of `seek::seek`: looks for object x, of which nothing is known yet, among the objects of the host: it is told then, or marked as new. By the laws of Seeks.
use Rattle.std.proofs.Common.{◌≤◌, ◌≡◌, length}
use Rattle.canon.specs.Figures.{capacity}
use Rattle.maker.specs.Seeking.{SoughtTo}
use Rattle.maker.proofs.seek.seek.Given as goal

abbrev pub invariant-loop-y : goal.invariant-loop-y
invariant-loop-y l = (l.y ≤ l.t) × (l.t ≤ capacity) × (length l.told ≡ length l.initial.told) × SoughtTo l.work l.src l.x l.host l.initial.told l.told l.y
