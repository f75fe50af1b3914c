-- The line form: lines of upper-case hexadecimal, each ended by LF. From characters to bytes, and back. Not here: what the bytes mean (Frames).
use Rattle.std.specs.Prelude.{ℕ, ◌+◌, ◌*◌, ◌-◌, ◌/◌, ◌%◌, Bool, true, false, ◌&&◌, cond, List, [], ◌∷◌, ◌++◌, reverse, eqb, leb, length}
use Rattle.std.proofs.Math.Option.{Option, none, some}
use Rattle.cofj.specs.Limits.{line_size, text_size}
use Rattle.cofj.specs.Partial.{◌>>=◌, guard}

abbrev pub within : ℕ → ℕ → ℕ → Bool
within a b n = leb a n && leb n b

-- the value of a digit's character
abbrev pub digit : ℕ → Option ℕ
digit c = elim (within 48 57 c) [ true ↦ some (c - 48) | false ↦ elim (within 65 70 c) [ true ↦ some (c - 55) | false ↦ none ] ]

abbrev pub end_line : Option ℕ → List ℕ → Option (List (List ℕ)) → Option (List (List ℕ))
end_line p bs rest = elim p [
  | some h ↦ none
  | none ↦ guard (within 1 line_size (length bs)) >>= λ _. rest >>= λ ls. some (reverse bs ∷ ls)
]

abbrev pub at_end : Option ℕ → List ℕ → Option (List (List ℕ))
at_end none [] = some []
at_end none (b ∷ bs) = none
at_end (some h) bs = none

-- the lines of a text, each as its bytes. `p` is a first digit that waits for its second, `bs` the line's bytes so far, the last first.
unfoldable pub lines_from : List ℕ → Option ℕ → List ℕ → Option (List (List ℕ))
lines_from [] p bs = at_end p bs
lines_from (c ∷ cs) p bs =
    elim (eqb c 10) [
      | true ↦ end_line p bs (lines_from cs none [])
      | false ↦ digit c >>= λ d. elim p [ none ↦ lines_from cs (some d) bs | some h ↦ lines_from cs none ((16 * h + d) ∷ bs) ]
    ]

-- document 01's line form: not empty, at most `text_size` characters. Anything else is refusal 1
unfoldable pub lines : List ℕ → Option (List (List ℕ))
unfolding lines_from
lines s = guard (within 1 text_size (length s)) >>= λ _. lines_from s none []

-- ---- and back
abbrev pub char : ℕ → ℕ
char d = cond (leb d 9) (d + 48) (d + 55)

abbrev pub hex_line : List ℕ → List ℕ
hex_line [] = 10 ∷ []
hex_line (b ∷ bs) = char (b / 16) ∷ char (b % 16) ∷ hex_line bs

abbrev pub hex_text : List (List ℕ) → List ℕ
hex_text [] = []
hex_text (l ∷ ls) = hex_line l ++ hex_text ls
