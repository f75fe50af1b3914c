-- `read::text_into` meets its contract: a law of ReadLaws at each return.
use Rattle.std.proofs.Common.{rules}
use Rattle.std.proofs.lemmas.Result.{err_from_is_err_and}
use Rattle.tables.proofs.ReadLaws as laws
use Rattle.tables.proofs.read.text_into.Goals as goal

pub returns-in_err-w : goal.returns-in_err-w
returns-in_err-w c = let p = err_from_is_err_and c.from_residual.result c.from_residual.ensures.1 in rw (p.1, p.2) (search (laws.no_lines, c.in_err-w.was))

pub lines_into-requires : goal.lines_into-requires
lines_into-requires c = (search (laws.byte-lines, c.in_ok-w.was), search rules)

pub returns : goal.returns
returns c = search (laws.of_lines, c.in_ok-w.was)
