-- `lines::order` meets its contract. The loop keeps `Counting` (OrderLaws): c classes and m methods stand in front of the lines from i on.
use Rattle.std.proofs.Common.{rules, refl}
use Rattle.lineform.proofs.LineLaws as lines
use Rattle.lineform.proofs.OrderLaws as laws
use Rattle.lineform.proofs.lines.order.Goals as goal

pub loop-i-init : goal.loop-i-init
loop-i-init c = (search rules, search rules, search laws.counting_none)

pub bounds-d-a : goal.bounds-d-a
bounds-d-a c = lines.line_byte _ _ _ c.loop-i-test.true refl c.loop-i.invariant.2.here

pub returns-then-m-gt0 : goal.returns-then-m-gt0
returns-then-m-gt0 c = search laws.class_late

pub loop-i-preserved-then-k-eq1 : goal.loop-i-preserved-then-k-eq1
loop-i-preserved-then-k-eq1 c = (search lines.line_within, search rules, search laws.class_next)

pub loop-i-preserved : goal.loop-i-preserved
loop-i-preserved c = (search lines.line_within, search rules, search laws.method_next)

pub returns-then-e-d : goal.returns-then-e-d
returns-then-e-d c = search laws.main_early

pub returns-in-loop-i : goal.returns-in-loop-i
returns-in-loop-i c = search laws.counts

pub returns : goal.returns
returns c = search laws.no_main
