-- How many fields of fields begin at a place: so many do, at each turn of the loop.
use Rattle.evaluator.specs.Chains.{Chain}
use Rattle.evaluator.proofs.fields.fields_at.Given as goal

abbrev pub invariant-loop-d : goal.invariant-loop-d
invariant-loop-d l = Chain l.t l.at l.left l.d
