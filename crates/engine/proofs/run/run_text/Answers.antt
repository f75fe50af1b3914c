-- `run::run_text` meets its contract: what the state refuses, or the run where it refuses nothing.
use Rattle.std.proofs.Common.{◌∙◌, sym}
use Rattle.std.proofs.lemmas.Result.{err_from_is_err_and}
use Rattle.engine.proofs.StateLaws as states
use Rattle.engine.proofs.run.run_text.Goals as goal

pub returns-in_err-ready : goal.returns-in_err-ready
returns-in_err-ready c =
    let p = err_from_is_err_and c.from_residual.result c.from_residual.ensures.1 in
    rw (p.1, p.2) (states.state_refuses _ _ _ _ _ _ _ c.ready.ensures _ c.in_err-ready.was)

pub run_ready-requires : goal.run_ready-requires
run_ready-requires c = sym c.ready.ensures ∙ c.in_ok-ready.was
