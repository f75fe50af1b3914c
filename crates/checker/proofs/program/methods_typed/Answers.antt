-- `program::methods_typed` meets its contract. Invariant: the methods from i on decide.
use Rattle.checker.proofs.ProgramLaws as laws
use Rattle.checker.proofs.program.methods_typed.Goals as goal

pub loop-i-init : goal.loop-i-init
loop-i-init c = search laws.rest_start

pub returns-then-not-method_typed : goal.returns-then-not-method_typed
returns-then-not-method_typed c = search laws.rest_stop

pub loop-i-preserved : goal.loop-i-preserved
loop-i-preserved c = search laws.rest_next

pub returns : goal.returns
returns c = search laws.rest_end
