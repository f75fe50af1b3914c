-- The five characters of a stop, one after another.
use Rattle.std.proofs.Common.{arith, length-set}
use Rattle.evaluator.proofs.ReportLaws as laws
use Rattle.evaluator.proofs.report.report_stop.Goals as goal

pub bounds-out-1 : goal.bounds-out-1
bounds-out-1 c = simp length-set (omega arith)

pub bounds-out-2 : goal.bounds-out-2
bounds-out-2 c = simp length-set (omega arith)

pub overflow_add-out : goal.overflow_add-out
overflow_add-out c = search laws.stop_byte_lem

pub bounds-out-3 : goal.bounds-out-3
bounds-out-3 c = simp length-set (omega arith)

pub bounds-out-4 : goal.bounds-out-4
bounds-out-4 c = simp length-set (omega arith)

pub shape_of-out : goal.shape_of-out
shape_of-out c = simp length-set

pub returns : goal.returns
returns c = search laws.stop_written
