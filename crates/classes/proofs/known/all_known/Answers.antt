-- `known::all_known` meets its contract: a law of LineLaws for each return.
use Rattle.classes.proofs.LineLaws as laws
use Rattle.classes.proofs.known.all_known.Goals as goal

pub returns-then-s-at : goal.returns-then-s-at
returns-then-s-at c = search laws.scan_none

pub returns-then-none_above : goal.returns-then-none_above
returns-then-none_above c = search laws.above-scan
