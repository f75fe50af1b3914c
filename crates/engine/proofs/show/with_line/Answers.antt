-- A verdict's line by value: it is put into zeros.
use Rattle.engine.proofs.ShowLaws as laws
use Rattle.engine.proofs.show.with_line.Goals as goal

pub returns : goal.returns
returns c = search laws.line_value
