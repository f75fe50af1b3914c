-- `methods::method_with` meets its contract: a law of Laws at each return.
use Rattle.classes.proofs.Laws as laws
use Rattle.classes.proofs.methods.method_with.Goals as goal

pub returns-in_err-f : goal.returns-in_err-f
returns-in_err-f c = rw c.from_residual.ensures (search (laws.with_none, c.in_err-f.was))

pub returns-then-param_count-n : goal.returns-then-param_count-n
returns-then-param_count-n c = search (laws.with_other, c.in_ok-f.was)

pub returns : goal.returns
returns c = search (laws.with_is, c.in_ok-f.was)
