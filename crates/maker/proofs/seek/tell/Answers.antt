-- The proof of `seek::tell`: whether an object of a part is one of the host, and what that tells of others. By the laws of Seeks.
use Rattle.std.proofs.Common.{rules}
use Rattle.maker.proofs.Seeks as laws
use Rattle.maker.proofs.seek.tell.Goals as goal

pub in_step-requires : goal.in_step-requires
in_step-requires c = (search rules, search rules, search laws.tell_paired)

pub returns-then-not-in_step : goal.returns-then-not-in_step
returns-then-not-in_step c = search laws.tell_not

pub returns : goal.returns
returns c = search laws.tell_all
