-- The proof of `lockstep::alike`: whether the objects at places p and q have one class and as many fields. By the laws of canon's Nodes.
use Rattle.canon.proofs.Nodes as laws
use Rattle.values.proofs.lockstep.alike.Goals as goal

pub returns-then-a-p : goal.returns-then-a-p
returns-then-a-p c = search laws.alike_not

pub returns : goal.returns
returns c = search laws.alike_by_count
