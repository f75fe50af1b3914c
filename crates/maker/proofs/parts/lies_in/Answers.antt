-- The proof of `parts::lies_in`: whether v is an object of block d. By the laws of Hosts.
use Rattle.maker.proofs.Hosts as laws
use Rattle.maker.proofs.parts.lies_in.Goals as goal

pub returns-in-Object : goal.returns-in-Object
returns-in-Object c = search laws.lies_object

pub returns-in_default : goal.returns-in_default
returns-in_default c = laws.lies_else _ _ c.in_default.not-Object
