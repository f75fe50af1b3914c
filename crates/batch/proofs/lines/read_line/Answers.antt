-- The proof of `lines::read_line`: a law of ReadLine for each answer, and what `read_fields` and `spare_fields` ensure.
use Rattle.batch.proofs.ReadLine as laws
use Rattle.batch.proofs.lines.read_line.Goals as goal

pub returns-then-t-c : goal.returns-then-t-c
returns-then-t-c c = search laws.bad_class

pub returns-then-m-field_total : goal.returns-then-m-field_total
returns-then-m-field_total c = search laws.bad_total

pub returns-then-q-line : goal.returns-then-q-line
returns-then-q-line c = search laws.bad_fields

pub returns : goal.returns
returns c = search laws.part_read
