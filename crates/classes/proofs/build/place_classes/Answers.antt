-- The proof of `build::place_classes`. The first n lines, as classes 1 to n. By the laws of BuildLaws.
use Rattle.std.proofs.Common.{rules}
use Rattle.classes.proofs.BuildLaws as laws
use Rattle.classes.proofs.build.place_classes.Goals as goal

pub returns-in_err-e : goal.returns-in_err-e
returns-in_err-e c = rw c.from_residual.ensures (search (laws.lines_end, c.in_err-e.was))

pub returns-then-not-place_class : goal.returns-then-not-place_class
returns-then-not-place_class c = search (laws.lines_refused, c.in_ok-e.was)

pub loop-k-preserved : goal.loop-k-preserved
loop-k-preserved c = (search rules, search (laws.lines_next, c.in_ok-e.was))

pub returns : goal.returns
returns c = search laws.lines_done
