-- The second text of a run (requests 2026-01, 2026-02): the parts of the value that an `04` main is given, one line each. What it gives: the value of
-- what is reached from part 0, or refusal 14 (the text is no such list) or 15 (what is reached does not fit, or is too large).
-- The refusals as the request says them, of the parts as written, stand below; proofs/Batch proves that they are these.
-- Not here: which main is given one, and when a call is refused (Calls).
use Rattle.std.specs.Prelude.{ℕ, ◌≤◌, ◌≡◌, Bool, true, false, ◌&&◌, List, [], ◌∷◌, ◌↔◌, eqb, leb, length}
use Rattle.std.proofs.Math.Option.{Option, none, some}
use Rattle.std.proofs.Math.ListN.{get_elem?}
use Rattle.cofj.specs.Limits.{part_count, number_class}
use Rattle.cofj.specs.Partial.{◌>>=◌, guard}
use Rattle.cofj.specs.Text.{within, lines_from, hex_text}
use Rattle.cofj.specs.Syntax.{Ty, Class, Table}
use Rattle.cofj.specs.Classes.{class_fits, chain_has, fields_of, fields_to}
use Rattle.cofj.specs.Values.{Ref, obj, leaf, Leaf, mark, undet, num, Node, Graph, graph, node_at, refs_at, canon}
use Rattle.cofj.specs.Unfolding.{Same, Whole, Reached}
use Rattle.cofj.specs.Formed.{AllIn, Formed}
use Rattle.cofj.specs.Report.{object_lines}
use Rattle.cofj.specs.ReportForm.{objects_from}

-- ---- 14
-- a part of a known class, with as many fields as the class has
abbrev pub part_good : List Class → Node → Bool
part_good cs n = leb n.cls (length cs) && eqb (length n.refs) (length (fields_of cs n.cls))

unfoldable pub parts_good : List Class → List Node → Bool
unfolding fields_to
parts_good cs [] = true
parts_good cs (n ∷ ns) = part_good cs n && parts_good cs ns

-- the parts that a text lists: their lines are a report's object lines, numbered from 00
unfoldable pub parts_of : List Class → List ℕ → Option (List Node)
unfolding lines_from objects_from parts_good
parts_of cs s =
    lines_from s none [] >>= λ ls.
    guard (within 1 part_count (length ls)) >>= λ _.
    objects_from (length ls) 0 ls >>= λ ns.
    guard (parts_good cs ns) >>= λ _. some ns

-- ---- 15, judged on the value
-- what a place of this type may hold, of these objects; a number has the class of numbers and tag 0
abbrev pub leaf_held : Ty → Leaf → Bool
leaf_held w (mark k) = false
leaf_held w undet = eqb w.tag 3
leaf_held w (num n) = eqb w.cls number_class

abbrev pub holds : List Class → List Node → Ty → Ref → Bool
holds cs ns w (obj i) = class_fits cs (node_at ns i).cls w.cls
holds cs ns w (leaf l) = leaf_held w l

-- each field at its type
unfoldable pub all_hold : List Class → List Node → List Ty → List Ref → Bool
unfolding chain_has
all_hold cs ns [] rs = true
all_hold cs ns (w ∷ ws) [] = true
all_hold cs ns (w ∷ ws) (r ∷ rs) = holds cs ns w r && all_hold cs ns ws rs

-- the fields of each of the objects
unfoldable pub objects_hold : List Class → List Node → List Node → Bool
unfolding all_hold fields_to
objects_hold cs ns [] = true
objects_hold cs ns (n ∷ rest) = all_hold cs ns (fields_of cs n.cls) n.refs && objects_hold cs ns rest

unfoldable pub value_fits : ℕ → List Class → Ty → Graph → Bool
unfolding objects_hold chain_has
value_fits objects cs u v = leb (length v.nodes) objects && holds cs v.nodes u v.root && objects_hold cs v.nodes v.nodes

-- ---- what a text gives a main whose parameter has type u
pub data Input : Type 0 where
  refused : ℕ → Input
  given : Graph → Input

-- the value of what is reached from part 0
abbrev pub started : List Node → Graph
started ns = canon (graph (obj 0) ns)

abbrev pub fitting : ℕ → List Class → Ty → Graph → Input
fitting objects cs u v = elim (value_fits objects cs u v) [ true ↦ given v | false ↦ refused 15 ]

unfoldable pub input_of : ℕ → List Class → Ty → List ℕ → Input
unfolding parts_of value_fits canon
input_of objects cs u s = elim (parts_of cs s) [ none ↦ refused 14 | some ns ↦ fitting objects cs u (started ns) ]

-- ---- the request's words, of the parts as written
-- what 14 asks: the text is the lines of these parts, numbered from 00, each of a known class and with its fields, which hold parts of the list, FF or numbers
pub record ListsParts (t : Table) (s : List ℕ) (ns : List Node) : Type 0 where
  pub some_part : 1 ≤ length ns
  pub few : length ns ≤ part_count
  pub parts : AllIn (Formed t 0) ns
  pub inside : Whole (graph (obj 0) ns)
  pub text : hex_text (object_lines 0 ns) ≡ s

-- part i is reached from part 0, field after field
abbrev pub PartReached : List Node → ℕ → Type 0
PartReached ns i = Reached ns (obj 0) (obj i)

-- no two of these parts unfold to the same tree
abbrev pub Apart : List Node → List ℕ → Type 0
Apart ns [] = Unit {0}
Apart ns (i ∷ is) = AllIn (λ j. Same ns (obj i) ns (obj j) → ⊥) is × Apart ns is

-- what 15 asks: a reached part fits every place that holds it, only a minus place holds FF, only a place of class FE a number, and there are not too
-- many distinct ones
pub record Fitting (objects : ℕ) (cs : List Class) (u : Ty) (ns : List Node) : Type 0 where
  pub root : class_fits cs (node_at ns 0).cls u.cls ≡ true
  pub held : (i f j : ℕ) (w : Ty) → PartReached ns i → get_elem? (fields_of cs (node_at ns i).cls) f ≡ some w → get_elem? (refs_at ns i) f ≡ some (obj j)
      → class_fits cs (node_at ns j).cls w.cls ≡ true
  pub undetermined : (i f : ℕ) (w : Ty) → PartReached ns i → get_elem? (fields_of cs (node_at ns i).cls) f ≡ some w → get_elem? (refs_at ns i) f ≡ some (leaf undet) → w.tag ≡ 3
  pub number : (i f x : ℕ) (w : Ty) → PartReached ns i → get_elem? (fields_of cs (node_at ns i).cls) f ≡ some w → get_elem? (refs_at ns i) f ≡ some (leaf (num x))
      → w.cls ≡ number_class
  pub few : (is : List ℕ) → AllIn (PartReached ns) is → Apart ns is → length is ≤ objects

-- what a text gives, by these words
pub record Gives (objects : ℕ) (t : Table) (u : Ty) (s : List ℕ) (o : Input) : Type 0 where
  pub fourteen : (o ≡ refused 14) ↔ ((ns : List Node) → ListsParts t s ns → ⊥)
  pub fifteen : (o ≡ refused 15) ↔ ((ns : List Node) × ListsParts t s ns × (Fitting objects t.classes u ns → ⊥))
  pub value : (v : Graph) → (o ≡ given v) ↔ ((ns : List Node) × ListsParts t s ns × Fitting objects t.classes u ns × (v ≡ started ns))
