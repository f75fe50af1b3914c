-- Document 01's "a text is a value's report": its form and numbering, no two equal objects, at most so many of them, classes up to 20,
-- and for each class one field count, 0 for class 00. A line has at most four fields; document 02: a number is one of three bytes. Read into the
-- value that it reports.
use Rattle.std.specs.Prelude.{ℕ, zero, suc, ◌+◌, ◌*◌, ◌≤◌, ◌≡◌, Bool, true, false, ◌&&◌, ◌||◌, not, List, [], ◌∷◌, eqb, leb, ltb, length}
use Rattle.std.proofs.Math.Option.{Option, none, some}
use Rattle.cofj.specs.Limits.{class_count, field_count, number_class}
use Rattle.cofj.specs.Partial.{◌>>=◌, guard}
use Rattle.cofj.specs.Text.{lines_from}
use Rattle.cofj.specs.Frames.{Reader, got, byte, two_bytes, whole}
use Rattle.cofj.specs.Values.{Ref, obj, leaf, Leaf, undet, num, Node, node, Graph, graph, leaf_of, eq_nats, colours, visit, canon}
use Rattle.cofj.specs.Unfolding.{Whole}
use Rattle.cofj.specs.Formed.{AllIn, RefBelow}

-- a field of one byte, among n objects
abbrev pub ref_of : ℕ → ℕ → Option Ref
ref_of n b = elim (ltb b n) [ true ↦ some (obj b) | false ↦ elim (eqb b 0xFF) [ true ↦ some (leaf undet) | false ↦ none ] ]

-- a field, among n objects: FE and a number's two bytes, or one byte
unfoldable pub ref_at : ℕ → Reader Ref
unfolding two_bytes
ref_at n bs =
    byte bs >>= λ b.
    elim (eqb b.item number_class) [
      | true ↦ two_bytes b.rest >>= λ x. got (leaf (num x.item)) x.rest
      | false ↦ ref_of n b.item >>= λ r. got r b.rest
    ]

-- m fields
unfoldable pub refs_of : ℕ → ℕ → Reader (List Ref)
unfolding ref_at
refs_of n zero bs = got [] bs
refs_of n (suc m) bs = ref_at n bs >>= λ r. refs_of n m r.rest >>= λ rs. got (r.item ∷ rs.item) rs.rest

-- line k of n
abbrev pub object_of : ℕ → ℕ → List ℕ → Option Node
object_of n k [] = none
object_of n k (a ∷ []) = none
object_of n k (a ∷ b ∷ []) = none
object_of n k (a ∷ b ∷ c ∷ []) = none
object_of n k (a ∷ b ∷ c ∷ m ∷ bs) =
    guard (eqb a 5 && eqb b k && leb c class_count && leb m field_count) >>= λ _. refs_of n m bs >>= λ g. whole g >>= λ rs. some (node c rs)

unfoldable pub objects_from : ℕ → ℕ → List (List ℕ) → Option (List Node)
unfolding refs_of
objects_from n k [] = some []
objects_from n k (l ∷ ls) = object_of n k l >>= λ o. objects_from n (suc k) ls >>= λ os. some (o ∷ os)

-- 0, 1, .. n - 1, from k
unfoldable pub up_from : ℕ → ℕ → List ℕ
up_from k zero = []
up_from k (suc n) = k ∷ up_from (suc k) n

-- one field count for each class, none for class 0
abbrev pub agrees : Node → Node → Bool
agrees a b = not (eqb a.cls b.cls) || eqb (length a.refs) (length b.refs)

unfoldable pub all_agree : Node → List Node → Bool
all_agree a [] = true
all_agree a (b ∷ bs) = agrees a b && all_agree a bs

unfoldable pub one_count : List Node → Bool
unfolding all_agree
one_count [] = true
one_count (a ∷ as') = agrees a (node 0 []) && all_agree a as' && one_count as'

-- no two objects unfold to the same tree: each has its own colour
abbrev pub no_two_equal : List Node → Bool
no_two_equal ns = eq_nats (colours ns) (up_from 0 (length ns))

-- the numbers are those of the order first met: from object 0, then its fields in order, depth first, each object by its number
abbrev pub in_order : List Node → Bool
in_order ns = eq_nats (visit ns (up_from 0 (length ns)) (suc (length ns)) (obj 0) []) (up_from 0 (length ns))

unfoldable pub objects_good : ℕ → List Node → Bool
unfolding one_count eq_nats colours visit up_from
objects_good objects ns = leb 1 (length ns) && leb (length ns) objects && one_count ns && no_two_equal ns && in_order ns

abbrev pub objects_value : ℕ → List (List ℕ) → Option Graph
objects_value objects ls = objects_from (length ls) 0 ls >>= λ ns. guard (objects_good objects ns) >>= λ _. some (graph (obj 0) ns)

-- the value that the one line of its report tells, if it is no object: the line 06 is undetermined, a line 09 a number
abbrev pub leaf_in : List ℕ → Option Leaf
leaf_in [] = none
leaf_in (a ∷ []) = guard (eqb a 6) >>= λ _. some undet
leaf_in (a ∷ b ∷ []) = none
leaf_in (a ∷ b ∷ c ∷ []) = guard (eqb a 9) >>= λ _. some (num (256 * b + c))
leaf_in (a ∷ b ∷ c ∷ d ∷ bs) = none

-- any other value's report lists its objects
abbrev pub lines_value : ℕ → List (List ℕ) → Option Graph
lines_value objects [] = none
lines_value objects (l ∷ []) = elim (leaf_in l) [ some v ↦ some (leaf_of v) | none ↦ objects_value objects (l ∷ []) ]
lines_value objects (l ∷ m ∷ ls) = objects_value objects (l ∷ m ∷ ls)

-- the value that a text reports, with at most so many objects; none where the text is no value's report
unfoldable pub reported : ℕ → List ℕ → Option Graph
unfolding lines_from objects_from objects_good
reported objects s = lines_from s none [] >>= λ ls. lines_value objects ls

-- ---- the values that have a report
-- an object as a report can list it
pub record Plain (n : Node) : Type 0 where
  pub known : n.cls ≤ class_count
  pub few : length n.refs ≤ field_count
  pub closed : AllIn (RefBelow 0) n.refs

-- every value of a run that reading admits is one (proofs/Reports)
pub record Reportable (objects : ℕ) (v : Graph) : Type 0 where
  pub whole : Whole v
  pub own : canon v ≡ v
  pub small : length v.nodes ≤ objects
  pub root : RefBelow 0 v.root
  pub nodes : AllIn Plain v.nodes
  pub counts : one_count v.nodes ≡ true
