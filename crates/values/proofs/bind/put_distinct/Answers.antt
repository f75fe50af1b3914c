-- The proof of `bind::put_distinct`: the value at object i of n, of which no two are equal, to block `dst` as they are. By the laws of Puts.
use Rattle.values.proofs.Puts as laws
use Rattle.values.proofs.bind.put_distinct.Goals as goal

pub returns : goal.returns
returns c = search laws.put_distinct_lem
