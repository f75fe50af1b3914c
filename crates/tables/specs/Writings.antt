-- What `write` answers of a table's bytes B. A candidate text is taken from the bytes: if it reads into B it is B's text, and else no text reads
-- into B (proofs/Written). Not here: the language's text of a table (cofj's Writing, Calls).
use Rattle.std.specs.Prelude.{ℕ, zero, suc, ◌+◌, ◌-◌, ◌*◌, ◌≤◌, ◌≡◌, min, Bool, false, List, [], ◌∷◌, ◌++◌, eqb, get_or, take, drop, Ok, Err}
use Rattle.std.specs.Str.{bytes_eq}
use Rattle.std.specs.declared.result.Result.{Result}
use Rattle.cofj.specs.declared.Refusal.{Refusal}
use Rattle.cofj.specs.Refusals.{refusal_number}
use Rattle.cofj.specs.Limits.{class_count, method_count, field_count}
use Rattle.cofj.specs.declared.Written.{Written}
use Rattle.cofj.specs.Text.{hex_text}
use Rattle.cofj.specs.Writing.{Text, no_text, text}
use Rattle.cofj.specs.Calls.{Wrote, wrote}
use Rattle.classes.specs.Figures.{row_size, long_size, methods_at, main_at, last_byte, class_count_at, method_count_at}
use Rattle.classes.specs.Machine.{pick}
use Rattle.tables.specs.declared.read.Reading.{Reading}
use Rattle.tables.specs.Readings.{reading_of}

-- characters of the longest line: 255 bytes of two, and its end
abbrev pub line_text : ℕ
line_text = 511

-- characters of the longest candidate: 32 class lines of 25, 65 of the longest
abbrev pub room_size : ℕ
room_size = 34015

-- ---- counts, kept within their limits: a table that exceeds one is refused when its text is read again
-- r bytes follow the first in a line of x bytes
pub record After (x r : ℕ) : Type 0 where
  pub same : r ≡ min (x - 1) 254
  pub small : r ≤ 254

-- ---- the lines, as the bytes have them
-- class k: its number, its parent, how many own fields, their types
unfoldable pub class_in : List ℕ → ℕ → List ℕ
class_in B k =
    1 ∷ take (3 + 2 * min (get_or B (row_size * k + 2) 0) field_count)
    (k ∷ get_or B (row_size * k) 0 ∷ get_or B (row_size * k + 2) 0 ∷ get_or B (row_size * k + 3) 0 ∷ get_or B (row_size * k + 4) 0 ∷ get_or B (row_size * k + 5) 0
    ∷ get_or B (row_size * k + 6) 0 ∷ get_or B (row_size * k + 7) 0 ∷ get_or B (row_size * k + 8) 0 ∷ get_or B (row_size * k + 9) 0 ∷ get_or B (row_size * k + 10) 0 ∷ [])

-- the bytes after the first of the line in the long row at b
abbrev pub long_in : List ℕ → ℕ → List ℕ
long_in B b = take (min (get_or B (b + last_byte) 0 - 1) 254) (drop (b + 1) B)

unfoldable pub classes_in : List ℕ → ℕ → List (List ℕ)
classes_in B zero = []
classes_in B (suc k) = classes_in B k ++ (class_in B (suc k) ∷ [])

unfoldable pub methods_in : List ℕ → ℕ → List (List ℕ)
methods_in B zero = []
methods_in B (suc i) = methods_in B i ++ ((2 ∷ long_in B (methods_at + long_size * i)) ∷ [])

-- main's line begins with 3, or with 4 where bytes stand between it and the expression
abbrev pub main_first : ℕ → ℕ
main_first x = pick (eqb x 0) 3 4

abbrev pub main_in : List ℕ → List ℕ
main_in B = main_first (get_or B main_at 0) ∷ long_in B main_at

unfoldable pub lines_in : List ℕ → List (List ℕ)
lines_in B =
    (classes_in B (min (get_or B class_count_at 0) class_count) ++ methods_in B (min (get_or B method_count_at 0) method_count)) ++ (main_in B ∷ [])

-- ---- whether the candidate reads into B
unfoldable pub gives : Reading → List ℕ → Bool
gives r B = pick (eqb r.refusal 0) (bytes_eq B r.table.bytes) false

unfoldable pub readable : List ℕ → Bool
readable B = gives (reading_of (hex_text (lines_in B))) B

-- ---- the answer, and the buffer after it
unfoldable pub text_in : List ℕ → Text
text_in B = pick (readable B) (text (hex_text (lines_in B))) no_text

-- the length of a text, or a refusal, as an answer
abbrev pub written_by : Result ℕ Refusal → Written
written_by (Ok n) = record { refusal = 0; length = n }
written_by (Err r) = record { refusal = refusal_number r; length = 0 }

abbrev pub wrote_table : Written → List ℕ → Wrote
wrote_table r buffer = record { answer = r; buffer = buffer }

unfoldable pub writing_of : List ℕ → List ℕ → Wrote
writing_of B buffer = wrote (text_in B) buffer

-- what reading answers for a text that reads into B
abbrev pub holding : List ℕ → Reading
holding B = record { refusal = 0; table = record { bytes = B } }
