-- What the functions answer, of what the language's definitions give. Not here: lines as bytes (Packed).
use Rattle.std.specs.Prelude.{Some, None, Ok, Err, ℕ, zero, suc, ◌+◌, ◌*◌, ◌-◌, ◌<◌, ◌≤◌, ◌≡◌, Bool, true, false, ◌&&◌, List, [], ◌∷◌, ◌++◌, eqb, leb, ltb, length, get_or, set, drop}
use Rattle.std.specs.declared.option.Option.{Option as RustOption}
use Rattle.std.specs.declared.result.Result.{Result}
use Rattle.std.proofs.Math.Option.{Option, none, some}
use Rattle.cofj.specs.declared.Refusal.{Refusal}
use Rattle.cofj.specs.declared.Refusal.TheVariants.{NoLineForm, BadFrame, BadOrder}
use Rattle.cofj.specs.Limits.{line_size, text_size, method_count}
use Rattle.cofj.specs.Partial.{◌>>=◌}
use Rattle.cofj.specs.Syntax.{Method}
use Rattle.cofj.specs.Text.{within, digit, lines}
use Rattle.cofj.specs.Frames.{Got, exprs_by, expr, TextFrame, class_frame, method_frame, main_frame, frames}
use Rattle.cofj.specs.Tables.{Raw, ordered, few}
use Rattle.cofj.specs.Writing.{code_of}
use Rattle.lineform.specs.declared.exprs.Sign.{Sign}
use Rattle.lineform.specs.declared.frames.Kind.{Kind}
use Rattle.lineform.specs.declared.frames.Kind.TheVariants as kind
use Rattle.lineform.specs.declared.lines.Counts.{Counts}
use Rattle.lineform.specs.declared.sign.SignRow.{SignRow}
use Rattle.lineform.specs.Signs.{sign_row}
use Rattle.lineform.specs.Packed.{packed, unpack}

-- a digit's value, and a number that no three bytes come to
abbrev pub value_of : Option ℕ → ℕ
value_of none = 768
value_of (some d) = d

-- the values of all characters
pub record Values (t : List ℕ) : Type 0 where
  pub at : (c : ℕ) → c < 256 → get_or t c 0 ≡ value_of (digit c)

-- the byte of two digits; 768 or more if one is none
abbrev pub pair_value : ℕ → ℕ → ℕ
pair_value a b = 16 * value_of (digit a) + value_of (digit b)

-- the bytes of m pairs of digits from the place `from` on, written from `to` on
unfoldable pub put_pairs : List ℕ → ℕ → List ℕ → ℕ → ℕ → List ℕ
put_pairs text from out to zero = out
put_pairs text from out to (suc m) = set (put_pairs text from out to m) (to + m) (pair_value (get_or text (from + 2 * m) 0) (get_or text (from + 2 * m + 1) 0))

-- what is written where the next pair stands at i and goes to o
pub record Puts (text out₀ out : List ℕ) (from to i o : ℕ) : Type 0 where
  pub count : ℕ
  pub at : i ≡ from + 2 * count
  pub on : o ≡ to + count
  pub inside : i < length text
  pub good : (j : ℕ) → j < count → pair_value (get_or text (from + 2 * j) 0) (get_or text (from + 2 * j + 1) 0) < 256
  pub bytes : out ≡ put_pairs text from out₀ to count
  pub size : length out ≡ length out₀

-- there is text from `from` on, and room from `to` on
pub record Ahead (text out : List ℕ) (from to : ℕ) : Type 0 where
  pub some_text : from < length text
  pub room : 2 * to + length text ≤ 2 * length out + from + 2

-- the character c ends a line of n bytes
abbrev pub ends_line : ℕ → ℕ → Bool
ends_line c n = eqb c 10 && within 1 line_size n

-- the place in s after what was read from it
abbrev pub end_of : {A : Type 0} → List ℕ → Option (Got A) → RustOption ℕ
end_of s none = None
end_of s (some g) = Some (length s - length g.rest)

-- ---- the sign of the expression at a place
abbrev pub pick : {A : Type 0} → Bool → A → A → A
pick true a b = a
pick false a b = b

abbrev pub after : ℕ → ℕ → Sign
after next parts = record { next = next; parts = parts }

-- by its row in the table; an expression has at most four parts
unfoldable pub sign_of : ℕ → SignRow → RustOption Sign
sign_of at g = pick (eqb g.size 0) None (pick (ltb 4 g.parts) None (Some (after (at + g.size) g.parts)))

abbrev pub row_at : List ℕ → ℕ → SignRow
row_at s at = sign_row (get_or s at 0) (get_or s (at + 2) 0)

unfoldable pub sign_at : List ℕ → ℕ → RustOption Sign
unfolding sign_of
sign_at s at = pick (leb (length s) at) None (pick (ltb (length s - at) (row_at s at).size) None (sign_of at (row_at s at)))

-- where an expression ends whose sign tells these
unfoldable pub end_by : List ℕ → ℕ → ℕ → ℕ → RustOption ℕ
end_by s left next parts = pick (eqb parts 0) (Some next) (end_of s (exprs_by (expr (left - 1)) parts (drop next s)))

-- where the right expression of a method stands in its line
abbrev pub right_at : Method → ℕ
right_at d = 8 + 2 * length d.params + length (code_of d.left)

-- a method's kind has that place
abbrev pub kind_of : TextFrame → Kind
kind_of (class_frame c) = kind.Class
kind_of (method_frame d) = kind.Method (right_at d)
kind_of (main_frame i e) = kind.Main

abbrev pub framed_of : Option TextFrame → RustOption Kind
framed_of none = None
framed_of (some f) = Some (kind_of f)

-- ---- lines
abbrev pub decoded_of : Option (List (List ℕ)) → Result ℕ Refusal
decoded_of none = Err NoLineForm
decoded_of (some ls) = Ok (length (packed ls))

-- a text of a fit length, and room for its lines
-- there is room for a text's lines: a line of n bytes takes n + 1, and is 2n + 1 characters
pub record Roomy (text out : List ℕ) : Type 0 where
  pub room : length text ≤ text_size → 2 * length text + 10 ≤ 3 * length out

pub record Decodable (text out : List ℕ) : Type 0 where
  pub some_text : 1 ≤ length text
  pub short : length text ≤ text_size
  pub room : 2 * length text + 10 ≤ 3 * length out

-- the answer is the text's, and its lines stand in front of what was there; after a refusal the bytes are open
pub record Decodes (text out₀ out : List ℕ) (r : Result ℕ Refusal) : Type 0 where
  pub answer : r ≡ decoded_of (lines text)
  pub written : (ls : List (List ℕ)) → lines text ≡ some ls → out ≡ packed ls ++ drop (length (packed ls)) out₀

abbrev pub is_some : {A : Type 0} → Option A → Bool
is_some none = false
is_some (some a) = true

-- ---- what is noted of the frames: where the right expressions of the methods stand
pub data Noted : Type 0 where
  noted : ℕ → List ℕ → Noted

abbrev pub put_right : ℕ → ℕ → List ℕ → Noted
put_right b m R = pick (leb method_count m) (noted m R) (noted (m + 1) (set R m b))

abbrev pub note_right : Kind → ℕ → List ℕ → Noted
note_right kind.Class m R = noted m R
note_right (kind.Method b) m R = put_right b m R
note_right kind.Main m R = noted m R

-- the place is a byte
abbrev pub SmallKind : Kind → Type 0
SmallKind kind.Class = Unit {0}
SmallKind (kind.Method b) = b < 256
SmallKind kind.Main = Unit {0}

abbrev pub rights_of : List TextFrame → List ℕ
rights_of [] = []
rights_of (class_frame c ∷ fs) = rights_of fs
rights_of (method_frame d ∷ fs) = right_at d ∷ rights_of fs
rights_of (main_frame i e ∷ fs) = rights_of fs

-- R has the places of the first methods
pub record Rights (R : List ℕ) (fs : List TextFrame) : Type 0 where
  pub at : (j : ℕ) → j < length (rights_of fs) → j < method_count → get_or R j 0 ≡ get_or (rights_of fs) j 0

-- whether all lines have frames
abbrev pub framing_of : Option (List TextFrame) → Result (Unit {0}) Refusal
framing_of none = Err BadFrame
framing_of (some fs) = Ok tt

-- the answer of `frames_good`, and what it notes
pub record Framing (d : List ℕ) (g : Result (Unit {0}) Refusal) (R : List ℕ) : Type 0 where
  pub answer : g ≡ framing_of (frames (unpack d))
  pub rights : (fs : List TextFrame) → g ≡ Ok tt → frames (unpack d) ≡ some fs → Rights R fs

-- so many classes and methods
abbrev pub counted : ℕ → ℕ → Counts
counted c m = record { classes = c; methods = m }

abbrev pub counts_of : Option Raw → Result Counts Refusal
counts_of none = Err BadOrder
counts_of (some r) = Ok (counted (length r.classes) (length r.methods))

unfoldable pub order_of : Option (List TextFrame) → Result Counts Refusal
unfolding ordered
order_of none = Err BadOrder
order_of (some fs) = counts_of (ordered fs >>= few)
