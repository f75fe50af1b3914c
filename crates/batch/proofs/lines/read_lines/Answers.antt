-- The proof of `lines::read_lines`. The loop keeps `Listing` (ReadLines): the lines from i on list the parts after those that are read.
use Rattle.std.proofs.Common.{rules}
use Rattle.batch.proofs.ReadLines as laws
use Rattle.batch.proofs.lines.read_lines.Goals as goal

pub returns-then-n-gt-PARTS : goal.returns-then-n-gt-PARTS
returns-then-n-gt-PARTS c = search laws.list_many

pub loop-i-init : goal.loop-i-init
loop-i-init c = (search rules, search rules, search laws.list_none)

pub slice_bounds-read_line-end : goal.slice_bounds-read_line-end
slice_bounds-read_line-end c = search laws.list_within

pub returns-then-not-read_line : goal.returns-then-not-read_line
returns-then-not-read_line c = search laws.list_bad

pub loop-i-preserved : goal.loop-i-preserved
loop-i-preserved c = (search laws.list_within, search rules, search laws.list_more)

pub returns : goal.returns
returns c = search laws.list_done
