-- The proof of `lines::read_parts`: a law of ReadText for each answer, and what `decode` and `read_lines` ensure.
use Rattle.std.proofs.Common.{rules}
use Rattle.lineform.proofs.Established.{decoded_packed}
use Rattle.batch.proofs.ReadText as laws
use Rattle.batch.proofs.lines.read_parts.Goals as goal

pub returns-then-text-gt-LONGEST : goal.returns-then-text-gt-LONGEST
returns-then-text-gt-LONGEST c = search laws.long_text

pub returns-in_default : goal.returns-in_default
returns-in_default c = search laws.bad_text

pub read_lines-requires : goal.read_lines-requires
read_lines-requires c = (search decoded_packed, search rules)

pub returns : goal.returns
returns c = search laws.text_read
