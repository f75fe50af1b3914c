-- The proof of `bind::bind_code`: a code, the code `hot` turned to object i. By the laws of Bindings.
use Rattle.values.proofs.Bindings as laws
use Rattle.values.proofs.bind.bind_code.Goals as goal

pub returns-then-c-hot : goal.returns-then-c-hot
returns-then-c-hot c = search laws.code_bound

pub returns : goal.returns
returns c = search laws.code_kept
