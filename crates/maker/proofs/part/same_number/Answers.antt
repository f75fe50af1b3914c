-- The proof of `part::same_number`: whether object i of block src is object i of block host, as one that was built twice most often is. By the laws of Imports.
use Rattle.std.proofs.Common.{rules}
use Rattle.maker.proofs.Imports as laws
use Rattle.maker.proofs.part.same_number.Goals as goal

pub returns-then-work-host : goal.returns-then-work-host
returns-then-work-host c = search laws.number_none

pub like-requires : goal.like-requires
like-requires c = (search rules, search laws.number_inside)

pub returns-then-not-like : goal.returns-then-not-like
returns-then-not-like c = search laws.number_none

pub tell-requires : goal.tell-requires
tell-requires c = (search rules, search laws.number_inside, search rules, search rules)

pub returns : goal.returns
returns c = search laws.number_told
