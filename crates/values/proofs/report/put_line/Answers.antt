-- The proof of `report::put_line`: the line of object j, at a place of `out`. By the laws of Reports.
use Rattle.values.proofs.Reports as laws
use Rattle.values.proofs.report.put_line.Goals as goal

pub returns : goal.returns
returns c = search laws.line_written
