-- The proof of `parts::stands`: whether a part lies in block b, or is no object. By the laws of Wheres.
use Rattle.maker.proofs.Wheres as laws
use Rattle.maker.proofs.parts.stands.Goals as goal

pub returns-in-Object : goal.returns-in-Object
returns-in-Object c = search laws.stands_here

pub returns-in_default : goal.returns-in_default
returns-in_default c = laws.stands_else _ _ c.in_default.not-Object
