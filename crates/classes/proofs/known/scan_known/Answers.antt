-- `known::scan_known` meets its contract: a law of LineLaws for each way on. The loop keeps what the signs that are left say.
use Rattle.classes.proofs.LineLaws as laws
use Rattle.classes.proofs.known.scan_known.Goals as goal

pub returns-then-not-names_known : goal.returns-then-not-names_known
returns-then-not-names_known c = search laws.scan_unknown

pub returns-then-g-eq0 : goal.returns-then-g-eq0
returns-then-g-eq0 c = search laws.scan_stop

pub loop-a-preserved : goal.loop-a-preserved
loop-a-preserved c = search laws.scan_next

pub returns : goal.returns
returns c = search laws.scan_end
