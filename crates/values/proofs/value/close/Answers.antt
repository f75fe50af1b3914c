-- A value closed: a law for each return.
use Rattle.values.proofs.Closing as laws
use Rattle.values.proofs.value.close.Goals as goal

pub returns-then-work-b : goal.returns-then-work-b
returns-then-work-b c = search laws.close_free

pub returns-then-k-x : goal.returns-then-k-x
returns-then-k-x c = search laws.close_this

pub returns-else-k-x : goal.returns-else-k-x
returns-else-k-x c = search laws.close_other

pub returns-in-Number : goal.returns-in-Number
returns-in-Number c = search laws.close_number

pub returns-in-Undetermined : goal.returns-in-Undetermined
returns-in-Undetermined c = search laws.close-undetermined
