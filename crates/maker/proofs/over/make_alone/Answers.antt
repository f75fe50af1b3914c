-- A new object alone in a block.
use Rattle.maker.proofs.Beside as laws
use Rattle.maker.proofs.over.make_alone.Goals as goal

pub returns : goal.returns
returns c = search laws.alone_new
