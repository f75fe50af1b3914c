-- Main is run, and its outcome reported.
use Rattle.evaluator.proofs.ReportLaws as laws
use Rattle.evaluator.proofs.report.run_report.Goals as goal

pub returns : goal.returns
returns c = search laws.run_reports
