-- The trace searched for a call: the calls left, at each turn of the loop.
use Rattle.std.proofs.Common.{rules}
use Rattle.evaluator.proofs.MeetLaws as laws
use Rattle.evaluator.proofs.met.open_call.Goals as goal
use Rattle.evaluator.proofs.met.open_call.Goals.{else-not-other_call-via-then-not-other_call+else-same_call, else-not-other_call-via-else-not-other_call}

pub loop-j-init : goal.loop-j-init
loop-j-init c = search laws.left_all

pub bounds-trace-j : goal.bounds-trace-j
bounds-trace-j c = search laws.left_index

pub same_call-requires : goal.same_call-requires
same_call-requires c = (search laws.left_call, search rules, search rules)

pub returns-then-same_call : goal.returns-then-same_call
returns-then-same_call c = search laws.left_found

pub loop-j-preserved : goal.loop-j-preserved
loop-j-preserved c =
    elim c.else-not-other_call.branch [
      | else-not-other_call-via-then-not-other_call+else-same_call w ↦ search laws.left_more
      | else-not-other_call-via-else-not-other_call w ↦ search laws.left_other
    ]

pub returns : goal.returns
returns c = search laws.left_none
