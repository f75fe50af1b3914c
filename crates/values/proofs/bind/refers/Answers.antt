-- The proof of `bind::refers`: whether the object at place p refers to object i. By the laws of Referring.
use Rattle.values.proofs.Referring as laws
use Rattle.values.proofs.bind.refers.Goals as goal

pub returns-then-work-p : goal.returns-then-work-p
returns-then-work-p c = search laws.refer_first

pub returns-then-work-p-2 : goal.returns-then-work-p-2
returns-then-work-p-2 c = search laws.refer_second

pub returns-then-work-p-3 : goal.returns-then-work-p-3
returns-then-work-p-3 c = search laws.refer_third

pub returns : goal.returns
returns c = search laws.refer_last
