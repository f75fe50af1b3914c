-- The proof of `join::put_new`: the new ones of the first n objects, each at the place that `told` has for it. By the laws of Additions.
use Rattle.std.proofs.Common.{◌≤◌}
use Rattle.canon.specs.Figures.{capacity}
use Rattle.maker.specs.Joining.{Laid}
use Rattle.maker.proofs.join.put_new.Given as goal

abbrev pub invariant-loop-x : goal.invariant-loop-x
invariant-loop-x l = (l.x ≤ l.n) × (l.n ≤ capacity) × Laid l.initial.work l.src l.host l.told l.fresh l.x l.work
