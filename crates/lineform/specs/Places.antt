-- A line with a place in it, and what stands there. Not here: what is read from there on (Answers).
use Rattle.std.specs.Prelude.{Some, None, ℕ, List, [], ◌∷◌}
use Rattle.std.specs.Borrow.{Bor}
use Rattle.std.specs.declared.option.Option.{Option}
use Rattle.lineform.specs.declared.reader.LineReader.{LineReader}

-- the first byte of what is left
abbrev pub byte_of : List ℕ → Option ℕ
byte_of [] = None
byte_of (b ∷ bs) = Some b

abbrev pub reader_at : Bor (List ℕ) → ℕ → LineReader
reader_at line at = record { line = line; at = at }
