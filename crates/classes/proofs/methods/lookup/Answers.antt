-- The proof of `methods::lookup`. The method m of class c or of the nearest class above it. By the laws of proofs/Laws.
use Rattle.classes.proofs.Laws as laws
use Rattle.classes.proofs.methods.lookup.Goals as goal

pub returns-in_err-method : goal.returns-in_err-method
returns-in_err-method c = rw c.from_residual.ensures (search (laws.lookup_none, c.in_err-method.was))

pub returns : goal.returns
returns c = search (laws.lookup_at, c.in_ok-method.was)
