-- Nothing shown: the number, and zeros.
use Rattle.engine.proofs.ShowLaws as laws
use Rattle.engine.proofs.show.without_line.Goals as goal

pub returns : goal.returns
returns c = search laws.no_line_lem
