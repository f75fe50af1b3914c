-- `lines::decode_lines` meets its contract. The loop keeps `Reading` (DecodeLaws), its pace (w places and a line of o - w - 1 bytes took at least
-- (4o - w - 4) / 2 characters), and that a line is open where the last character is passed.
use Rattle.std.proofs.Common.{rules, arith, length-set}
use Rattle.lineform.proofs.DecodeLaws as laws
use Rattle.lineform.proofs.lines.decode_lines.Goals as goal

pub loop-i-init : goal.loop-i-init
loop-i-init c = (search rules, search rules, search rules, search rules, search rules, search laws.reading_none)

pub loop-i-preserved-then-x-lt256 : goal.loop-i-preserved-then-x-lt256
loop-i-preserved-then-x-lt256 c = (search rules, search rules, search rules, search rules, simp length-set (omega arith), search laws.byte_more)

pub returns-then-not-ends_line : goal.returns-then-not-ends_line
returns-then-not-ends_line c = search laws.line_bad

pub loop-i-preserved : goal.loop-i-preserved
loop-i-preserved c = (search rules, search rules, search laws.ahead_pace, search rules, search laws.ahead_length, search laws.ends_ahead)

pub returns-then-last-i : goal.returns-then-last-i
returns-then-last-i c = search laws.text_open

pub returns-then-not-ends_line-2 : goal.returns-then-not-ends_line-2
returns-then-not-ends_line-2 c = search laws.last_bad

pub returns : goal.returns
returns c = search laws.last_ends
