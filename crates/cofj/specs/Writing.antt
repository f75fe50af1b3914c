-- Writing: a table's text. Reading is its inverse, both ways (proofs/RoundTrip).
use Rattle.std.specs.Prelude.{ℕ, suc, ◌/◌, ◌%◌, List, [], ◌∷◌, ◌++◌, length}
use Rattle.std.proofs.Math.Option.{Option, none, some}
use Rattle.cofj.specs.Syntax.{Operation, sum, difference, Expr, this, res, param, field, call, new, literal, combine, choose, Exprs, done, also, count, Ty, Class, Method, Table}
use Rattle.cofj.specs.Text.{hex_text}
use Rattle.cofj.specs.Reading.{refusal, read, read_text}

-- a number as two bytes, high first
abbrev pub number_bytes : ℕ → List ℕ
number_bytes n = n / 256 ∷ n % 256 ∷ []

abbrev pub operation_sign : Operation → ℕ
operation_sign sum = 0x47
operation_sign difference = 0x48

-- an expression in prefix form
unfoldable mutual
  pub code_of : Expr → List ℕ
  code_of this = 0x40 ∷ []
  code_of res = 0x41 ∷ []
  code_of (param k) = 0x42 ∷ k ∷ []
  code_of (field f e) = 0x43 ∷ f ∷ code_of e
  code_of (call m e es) = 0x44 ∷ m ∷ count es ∷ (code_of e ++ codes_of es)
  code_of (new c es) = 0x45 ∷ c ∷ count es ∷ codes_of es
  code_of (literal n) = 0x46 ∷ number_bytes n
  code_of (combine o a b) = operation_sign o ∷ (code_of a ++ code_of b)
  code_of (choose c a b) = 0x49 ∷ (code_of c ++ (code_of a ++ code_of b))

  pub codes_of : Exprs → List ℕ
  codes_of done = []
  codes_of (also e es) = code_of e ++ codes_of es

abbrev pub types_bytes : List Ty → List ℕ
types_bytes [] = []
types_bytes (u ∷ us) = u.cls ∷ u.tag ∷ types_bytes us

-- ---- a line for each frame
abbrev pub class_line : ℕ → Class → List ℕ
class_line k c = 1 ∷ k ∷ c.parent ∷ length c.own ∷ types_bytes c.own

unfoldable pub method_line : Method → List ℕ
unfolding code_of
method_line d =
    2 ∷ d.owner ∷ d.name ∷ d.first.cls ∷ d.first.tag ∷ d.second.cls ∷ d.second.tag ∷ length d.params
    ∷ (types_bytes d.params ++ (code_of d.left ++ code_of d.right))

-- `03`, or `04` with the type of parameter 0
abbrev pub main_line : Option Ty → Expr → List ℕ
main_line none e = 3 ∷ code_of e
main_line (some u) e = 4 ∷ u.cls ∷ u.tag ∷ code_of e

-- classes are numbered in file order
abbrev pub class_lines : ℕ → List Class → List (List ℕ)
class_lines k [] = []
class_lines k (c ∷ cs) = class_line k c ∷ class_lines (suc k) cs

unfoldable pub method_lines : List Method → List (List ℕ)
unfolding method_line
method_lines [] = []
method_lines (d ∷ ds) = method_line d ∷ method_lines ds

unfoldable pub table_lines : Table → List (List ℕ)
unfolding method_lines code_of
table_lines t = class_lines 1 t.classes ++ (method_lines t.methods ++ (main_line t.input t.main ∷ []))

-- the text of a table
unfoldable pub text_of : Table → List ℕ
unfolding table_lines
text_of t = hex_text (table_lines t)

-- what the writer gives: the text, or refusal 8 where it does not pass 1 to 5; then no text reads into the table
pub data Text : Type 0 where
  no_text : Text
  text : List ℕ → Text

unfoldable pub write_table : Table → Text
unfolding text_of read_text
write_table t = elim (read_text (text_of t)) [ refusal k ↦ no_text | read u ↦ text (text_of t) ]
