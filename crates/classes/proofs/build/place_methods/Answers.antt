-- The proof of `build::place_methods`. The m lines from `from` on, as methods 0 to m - 1; `rights` says where their right expressions stand. By the laws of BuildLaws.
use Rattle.std.proofs.Common.{rules}
use Rattle.classes.proofs.BuildLaws as laws
use Rattle.classes.proofs.build.place_methods.Goals as goal

pub returns-in_err-e : goal.returns-in_err-e
returns-in_err-e c = rw c.from_residual.ensures (search (laws.lines_end, c.in_err-e.was))

pub returns-then-not-place_method : goal.returns-then-not-place_method
returns-then-not-place_method c = search (laws.lines_refused, c.in_ok-e.was)

pub loop-i-preserved : goal.loop-i-preserved
loop-i-preserved c = (search rules, search (laws.lines_next, c.in_ok-e.was))

pub returns : goal.returns
returns c = search laws.lines_done
