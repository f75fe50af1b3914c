-- What the parts of `line_show` answer. Not here: what is shown for both texts and for the input (cofj's Show).
use Rattle.std.specs.Prelude.{ℕ, ◌≤◌, ◌≡◌, true, false, List, [], ◌∷◌, eqb, length}
use Rattle.cofj.specs.declared.Shown.{Shown}
use Rattle.cofj.specs.declared.Verdict.{Verdict}
use Rattle.cofj.specs.Text.{hex_line}
use Rattle.cofj.specs.Calls.{over, zeros}
use Rattle.cofj.specs.Show.{verdict_size, filled_up, Presented}

-- an answer and both buffers after a call
abbrev pub showing : Shown → List ℕ → List ℕ → Presented
showing r report work = record { answer = r; report = report; work = work }

-- nothing shown, with this number
abbrev pub no_line : ℕ → Shown
no_line k = record { refusal = k; verdict_length = 0; verdict = zeros verdict_size; length = 0 }

-- the bytes of a verdict's line
abbrev pub verdict_bytes : Verdict → List ℕ
verdict_bytes v = elim (eqb v.refusal 0) [ true ↦ 8 ∷ v.refusal ∷ v.class ∷ v.tag ∷ [] | false ↦ 8 ∷ v.refusal ∷ [] ]

-- a verdict's line in front of what was there, and its length
pub record PutVerdict (v : Verdict) (d₀ d : List ℕ) (t : ℕ) : Type 0 where
  pub fits : t ≤ verdict_size
  pub count : t ≡ length (hex_line (verdict_bytes v))
  pub text : d ≡ over (hex_line (verdict_bytes v)) d₀

-- the line by value, beside a report's length
abbrev pub line_of : Verdict → ℕ → Shown
line_of v n = let line = hex_line (verdict_bytes v) in record { refusal = 0; verdict_length = length line; verdict = filled_up verdict_size line; length = n }
