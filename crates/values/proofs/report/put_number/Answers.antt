-- The proof of `report::put_number`: the line of a number. By the laws of Reports.
use Rattle.std.proofs.Common.{arith, ℕ, ◌/◌, ◌%◌, ◌≡◌, ap, ◌∙◌, List, get_or, length-set}
use Rattle.values.proofs.Reports as laws
use Rattle.values.proofs.report.put_number.Goals as goal

pub put_byte-b-requires : goal.put_byte-b-requires
put_byte-b-requires c = omega (arith, laws.byte_end _ _ _ _ _ c.put_byte-a.ensures)

pub put_byte-t-requires : goal.put_byte-t-requires
put_byte-t-requires c = omega (arith, laws.byte_end _ _ _ _ _ c.put_byte-a.ensures, laws.byte_end _ _ _ _ _ c.put_byte-b.ensures)

pub bounds-out-t : goal.bounds-out-t
bounds-out-t c = omega (arith, laws.byte_end _ _ _ _ _ c.put_byte-a.ensures, laws.byte_end _ _ _ _ _ c.put_byte-b.ensures, laws.byte_end _ _ _ _ _ c.put_byte-t.ensures)

pub overflow_add-result : goal.overflow_add-result
overflow_add-result c = omega (arith, laws.byte_end _ _ _ _ _ c.put_byte-a.ensures, laws.byte_end _ _ _ _ _ c.put_byte-b.ensures, laws.byte_end _ _ _ _ _ c.put_byte-t.ensures)

pub shape_of-out : goal.shape_of-out
shape_of-out c = simp length-set (omega arith)

pub returns : goal.returns
returns c =
    let a = laws.byte_written _ _ _ _ _ (omega arith) c.put_byte-a.ensures in
    let b = laws.byte_written _ _ _ _ _ (omega (arith, a.end)) c.put_byte-b.ensures in
    let t = laws.byte_written _ _ _ _ _ (omega (arith, a.end, b.end)) c.put_byte-t.ensures in
    let eh : get_or c.to_be_bytes.result 0 0 ≡ c.args.n / 256 = ap (λ (l : List ℕ). get_or l 0 0) c.to_be_bytes.ensures ∙ omega arith in
    let el : get_or c.to_be_bytes.result 1 0 ≡ c.args.n % 256 = ap (λ (l : List ℕ). get_or l 1 0) c.to_be_bytes.ensures in
    laws.number_reported _ _ _ _ _ _ _ _ _ _ c.requires eh el a b t
