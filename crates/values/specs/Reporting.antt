-- The report of a value, written to the front of a lent buffer.
use Rattle.std.specs.Prelude.{ℕ, ◌+◌, ◌*◌, ◌≤◌, ◌≡◌, List, [], ◌∷◌, ◌++◌, length, get_or, take, drop}
use Rattle.cofj.specs.Limits.{report_size}
use Rattle.cofj.specs.Values.{Graph}
use Rattle.cofj.specs.Text.{hex_line}
use Rattle.cofj.specs.Report.{object_line, value_report}
use Rattle.lineform.specs.Writes.{hex_bytes}
use Rattle.canon.specs.Figures.{code_count}
use Rattle.canon.specs.Layout.{node_in}

-- the characters of an object's line: those before the fields, those of a field at most, those of all fields, and with LF the whole line's
abbrev pub head_text : ℕ
head_text = 8

abbrev pub field_text : ℕ
field_text = 6

abbrev pub fields_text : ℕ
fields_text = field_text * code_count

abbrev pub line_size : ℕ
line_size = head_text + fields_text + 1

-- the first j of d are p, and the others are as in d₀
pub record Front (d₀ d : List ℕ) (j : ℕ) (p : List ℕ) : Type 0 where
  pub same : length d ≡ length d₀
  pub front : take j d ≡ p
  pub rest : drop j d ≡ drop j d₀

-- the bytes l as characters from one place to another
pub record Written (l d₀ : List ℕ) (to : ℕ) (d : List ℕ) (t : ℕ) : Type 0 where
  pub end : t ≡ to + 2 * length l
  pub text : Front d₀ d t (take to d₀ ++ hex_bytes l)

-- what stands before the fields in the line of object j, which lies at a place of W
unfoldable pub head_in : List ℕ → ℕ → ℕ → List ℕ
head_in W at j = 5 ∷ j ∷ get_or W at 0 ∷ get_or W (at + 1) 0 ∷ []

-- the line
unfoldable pub line_in : List ℕ → ℕ → ℕ → List ℕ
line_in W at j = object_line j (node_in W at)

-- a line's characters from one place to another
pub record Line (l d₀ : List ℕ) (to : ℕ) (d : List ℕ) (t : ℕ) : Type 0 where
  pub up : to ≤ t
  pub top : t ≤ to + line_size
  pub text : Front d₀ d t (take to d₀ ++ hex_line l)

-- the report of v in front of what was there, and its length
pub record Reported (v : Graph) (d₀ d : List ℕ) (t : ℕ) : Type 0 where
  pub fits : t ≤ report_size
  pub count : t ≡ length (value_report v)
  pub text : d ≡ value_report v ++ drop (length (value_report v)) d₀
