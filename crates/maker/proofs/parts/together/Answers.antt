-- The proof of `parts::together`: whether each part lies in block b, or is no object. By the laws of Wheres.
use Rattle.std.proofs.Common.{rules}
use Rattle.maker.proofs.Wheres as laws
use Rattle.maker.proofs.parts.together.Goals as goal

pub loop-i-init : goal.loop-i-init
loop-i-init c = (search rules, laws.each_none _ 0 _)

pub returns-then-not-stands : goal.returns-then-not-stands
returns-then-not-stands c = search laws.together_not

pub loop-i-preserved : goal.loop-i-preserved
loop-i-preserved c = (search rules, search laws.each_more)

pub returns : goal.returns
returns c = search laws.together_all
