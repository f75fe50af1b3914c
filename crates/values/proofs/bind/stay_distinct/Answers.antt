-- The proof of `bind::stay_distinct`: true only if no two of the objects bound are equal. By the laws of Bindings and Apart.
use Rattle.values.proofs.Bindings as bindings
use Rattle.values.proofs.Apart as apart
use Rattle.values.proofs.bind.stay_distinct.Goals as goal

pub unlike_others-requires : goal.unlike_others-requires
unlike_others-requires c = (search bindings.bound_raw, search bindings.root_low)

pub returns-then-work-b : goal.returns-then-work-b
returns-then-work-b c = search apart.stays_beyond

pub unlike_others-requires-then-unreferred : goal.unlike_others-requires-then-unreferred
unlike_others-requires-then-unreferred c = (search bindings.bound_raw, search bindings.root_low)

pub returns-then-unreferred : goal.returns-then-unreferred
returns-then-unreferred c = search apart.stays_distinct
