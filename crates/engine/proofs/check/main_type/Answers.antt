-- `check::main_type` meets its contract: what reading refuses, or the check of its table.
use Rattle.std.proofs.lemmas.Result.{err_from_is_err_and}
use Rattle.tables.proofs.ReadLaws as reads
use Rattle.engine.proofs.CheckLaws as laws
use Rattle.engine.proofs.check.main_type.Goals as goal

pub read_into-requires : goal.read_into-requires
read_into-requires c = search reads.zeros

pub returns-in_err-read_into : goal.returns-in_err-read_into
returns-in_err-read_into c =
    let p = err_from_is_err_and c.from_residual.result c.from_residual.ensures.1 in
    rw (p.1, p.2) (laws.text_refused _ _ _ c.read_into.ensures _ c.in_err-read_into.was)

pub returns : goal.returns
returns c = laws.text_checked _ _ _ c.read_into.ensures _ c.in_ok-read_into.was c.check.ensures
