-- The proof of `report::put_undetermined`: the line of a value that is neither an object nor a number. By the laws of Reports.
use Rattle.std.proofs.Common.{arith}
use Rattle.values.proofs.Reports as laws
use Rattle.values.proofs.report.put_undetermined.Goals as goal

pub bounds-out-t : goal.bounds-out-t
bounds-out-t c = omega (arith, laws.byte_end _ _ _ _ _ c.put_byte-t.ensures)

pub overflow_add-result : goal.overflow_add-result
overflow_add-result c = omega (arith, laws.byte_end _ _ _ _ _ c.put_byte-t.ensures)

pub returns : goal.returns
returns c = laws.six_reported _ _ _ c.requires (laws.byte_written _ _ _ _ _ (omega arith) c.put_byte-t.ensures)
