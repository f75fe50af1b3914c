-- The proof of `bind::bind_object`: the codes of the object at a place. By the laws of Bindings.
use Rattle.values.proofs.Bindings as laws
use Rattle.values.proofs.bind.bind_object.Goals as goal

pub returns : goal.returns
returns c = search laws.object_bound
