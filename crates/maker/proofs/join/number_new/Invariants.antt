-- The proof of `join::number_new`: numbers for the new ones of the first n objects, from t on in their order. By the laws of Numberings.
use Rattle.std.proofs.Common.{◌≤◌}
use Rattle.canon.specs.Figures.{capacity}
use Rattle.maker.specs.Joining.{Counted}
use Rattle.maker.proofs.join.number_new.Given as goal

abbrev pub invariant-loop-x : goal.invariant-loop-x
invariant-loop-x l = (l.x ≤ l.n) × Counted l.x l.t l.initial.told l.fresh l.told l.next × (l.t ≤ capacity → l.next ≤ capacity)
