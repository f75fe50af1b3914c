-- `work::clear` meets its contract: the first bytes are filled, the others as they were.
use Rattle.engine.proofs.WorkLaws as laws
use Rattle.engine.proofs.work.clear.Goals as goal

pub returns : goal.returns
returns c = laws.clear_done c.args.work.now c.fill.new.self c.requires (c.fill.ensures.after (λ y e. e))
