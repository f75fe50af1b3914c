-- `lines::put_ahead` meets its contract: what two functions write, one after the other, is a law of BlockLaws.
use Rattle.lineform.proofs.BlockLaws as laws
use Rattle.lineform.proofs.lines.put_ahead.Goals as goal

pub returns : goal.returns
returns c = search laws.puts_on
