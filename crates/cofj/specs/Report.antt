-- Reports: the text that a run writes. Not here: which texts are a value's report (ReportForm).
use Rattle.std.specs.Prelude.{ℕ, suc, ◌≡◌, List, [], ◌∷◌, ◌++◌, length}
use Rattle.cofj.specs.Values.{Graph, Node, Ref, obj, leaf, Leaf, mark, undet, num}
use Rattle.cofj.specs.Unfolding.{SameTree}
use Rattle.cofj.specs.Running.{Outcome, value, stopped, Stop, stuck, no_fuel, too_deep, too_large, overflow}
use Rattle.cofj.specs.Limits.{number_class}
use Rattle.cofj.specs.Writing.{number_bytes}
use Rattle.cofj.specs.Text.{hex_text}

-- a field: its object's number, FF for undetermined, or FE and a number's two bytes. A value of a run has no mark.
abbrev pub leaf_bytes : Leaf → List ℕ
leaf_bytes (mark k) = 0xFF ∷ []
leaf_bytes undet = 0xFF ∷ []
leaf_bytes (num n) = number_class ∷ number_bytes n

abbrev pub ref_bytes : Ref → List ℕ
ref_bytes (obj i) = i ∷ []
ref_bytes (leaf l) = leaf_bytes l

abbrev pub field_bytes : List Ref → List ℕ
field_bytes [] = []
field_bytes (r ∷ rs) = ref_bytes r ++ field_bytes rs

abbrev pub object_line : ℕ → Node → List ℕ
object_line k n = 5 ∷ k ∷ n.cls ∷ length n.refs ∷ field_bytes n.refs

-- a line for each object, in the order of their numbers; a canonical graph lists them in the order first met
abbrev pub object_lines : ℕ → List Node → List (List ℕ)
object_lines k [] = []
object_lines k (n ∷ ns) = object_line k n ∷ object_lines (suc k) ns

-- a value that is no object
abbrev pub leaf_line : Leaf → List ℕ
leaf_line (mark k) = 6 ∷ []
leaf_line undet = 6 ∷ []
leaf_line (num n) = 9 ∷ number_bytes n

abbrev pub value_lines : Graph → List (List ℕ)
value_lines g = elim g.root [ obj i ↦ object_lines 0 g.nodes | leaf l ↦ leaf_line l ∷ [] ]

abbrev pub stop_byte : Stop → ℕ
stop_byte stuck = 1
stop_byte no_fuel = 2
stop_byte too_deep = 3
stop_byte too_large = 4
stop_byte overflow = 5

abbrev pub outcome_lines : Outcome Graph → List (List ℕ)
outcome_lines (value g n) = value_lines g
outcome_lines (stopped l n) = (7 ∷ stop_byte l ∷ []) ∷ []

-- the report of an outcome, and of a value
abbrev pub report_of : Outcome Graph → List ℕ
report_of o = hex_text (outcome_lines o)

abbrev pub value_report : Graph → List ℕ
value_report g = hex_text (value_lines g)

-- the fuel that is left
abbrev pub fuel_of : Outcome Graph → ℕ
fuel_of (value g n) = n
fuel_of (stopped l n) = n

-- both ended in values that unfold to the same tree, or both stopped at the same
abbrev pub SameEnd : Outcome Graph → Outcome Graph → Type 0
SameEnd (value v n) (value w m) = SameTree v w
SameEnd (value v n) (stopped l m) = ⊥
SameEnd (stopped k n) (value w m) = ⊥
SameEnd (stopped k n) (stopped l m) = k ≡ l
