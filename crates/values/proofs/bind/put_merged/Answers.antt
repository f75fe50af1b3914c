-- The proof of `bind::put_merged`: the value at object i of n, to block `dst`, equal objects merged and numbered from there. By the laws of Puts.
use Rattle.values.proofs.Puts as laws
use Rattle.values.proofs.bind.put_merged.Goals as goal

pub returns : goal.returns
returns c = search laws.put_merged_lem
