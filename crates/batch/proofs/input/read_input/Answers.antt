-- `input::read_input` meets its contract: a law of InputLaws at each return, and for what `parts_input` asks.
use Rattle.std.proofs.lemmas.Result.{err_from_is_err_and}
use Rattle.batch.proofs.InputLaws as laws
use Rattle.batch.proofs.input.read_input.Goals as goal

pub returns-in_err-read_parts : goal.returns-in_err-read_parts
returns-in_err-read_parts c =
    let p = err_from_is_err_and c.from_residual.result c.from_residual.ensures.1 in
    rw (p.1, p.2) (laws.not_listed _ _ _ _ _ _ _ c.read_parts.ensures _ c.in_err-read_parts.was)

pub returns : goal.returns
returns c = laws.text_given _ _ _ _ _ c.read_parts.ensures c.in_ok-read_parts.was _ _ _ _ c.parts_input.ensures
