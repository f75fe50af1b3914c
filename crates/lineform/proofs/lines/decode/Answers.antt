-- `lines::decode` meets its contract: a law of DecodeLaws for each refusal, and what `decode_lines` ensures.
use Rattle.std.proofs.Common.{sym, eqb-true}
use Rattle.lineform.proofs.DecodeLaws as laws
use Rattle.lineform.proofs.lines.decode.Goals as goal

pub returns-then-is_empty : goal.returns-then-is_empty
returns-then-is_empty c = laws.empty_text _ _ (eqb-true _ 0 (sym c.if-is_empty.ensures))

pub returns-then-text-gt-TEXT_SIZE : goal.returns-then-text-gt-TEXT_SIZE
returns-then-text-gt-TEXT_SIZE c = search laws.long_text
