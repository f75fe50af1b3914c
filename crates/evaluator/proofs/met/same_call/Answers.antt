-- An open call compared with a call: a law for each return.
use Rattle.std.proofs.Common.{rules}
use Rattle.evaluator.proofs.SameLaws as laws
use Rattle.evaluator.proofs.met.same_call.Goals as goal

pub returns-then-o-c : goal.returns-then-o-c
returns-then-o-c c = search laws.call_name

pub returns-then-o-c-2 : goal.returns-then-o-c-2
returns-then-o-c-2 c = search laws.call_count

pub equal-requires : goal.equal-requires
equal-requires c = (search laws.receiver_held, search laws.receiver_held)

pub returns-then-not-equal : goal.returns-then-not-equal
returns-then-not-equal c = search laws.call_receiver

pub same_args-requires : goal.same_args-requires
same_args-requires c = (search laws.args_held, search rules, search rules)

pub returns : goal.returns
returns c = search laws.call_args
