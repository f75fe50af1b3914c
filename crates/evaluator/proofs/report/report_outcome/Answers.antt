-- The report of a value, or the line of what the run stopped at.
use Rattle.std.proofs.Common.{rules, refl}
use Rattle.evaluator.proofs.ReportLaws as laws
use Rattle.evaluator.proofs.report.report_outcome.Goals as goal

pub report-n-requires : goal.report-n-requires
report-n-requires c = (search laws.value_held, search rules)

pub overflow_cast-result : goal.overflow_cast-result
overflow_cast-result c = search laws.value_length

pub returns-in-Ok : goal.returns-in-Ok
returns-in-Ok c = (search laws.outcome_value, search rules)

pub returns-in-Err : goal.returns-in-Err
returns-in-Err c = (search laws.outcome_halt, refl)
