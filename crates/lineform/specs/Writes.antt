-- Characters written into a lent buffer: the place after them and the buffer, as one value. Not here: what is written (cofj's Text, Writing).
use Rattle.std.specs.Prelude.{ℕ, ◌+◌, ◌/◌, ◌%◌, List, [], ◌∷◌, length}
use Rattle.std.proofs.lemmas.List.Edits.{sets}
use Rattle.cofj.specs.Text.{char, hex_line, hex_text}

pub data Wrote : Type 0 where
  wrote : ℕ → List ℕ → Wrote

-- the characters cs stored in out from `at` on
unfoldable pub put : List ℕ → ℕ → List ℕ → Wrote
put out at cs = wrote (at + length cs) (sets out at cs)

-- the digits of bytes: a line without its end
unfoldable pub hex_bytes : List ℕ → List ℕ
hex_bytes [] = []
hex_bytes (b ∷ bs) = char (b / 16) ∷ char (b % 16) ∷ hex_bytes bs

-- one line, and lines one after another
unfoldable pub put_line : List ℕ → ℕ → List ℕ → Wrote
unfolding put
put_line out at l = put out at (hex_line l)

unfoldable pub put_text : List ℕ → ℕ → List (List ℕ) → Wrote
unfolding put
put_text out at ls = put out at (hex_text ls)
