-- What holds of every value of a run, whatever the program: its objects have their class's fields, its marks are those of open calls, its numbers have two bytes.
-- Document 01 says the same in other words: "new: stuck on a wrong count"; a report's "for each class one field count".
use Rattle.std.specs.Prelude.{ℕ, ◌≤◌, ◌<◌, ◌≡◌, List, [], ◌∷◌, length}
use Rattle.std.proofs.Math.Option.{Option, none, some}
use Rattle.cofj.specs.Limits.{number_count}
use Rattle.cofj.specs.Syntax.{Table}
use Rattle.cofj.specs.Classes.{fields_of}
use Rattle.cofj.specs.Values.{Ref, obj, leaf, Leaf, mark, undet, num, Node, Graph, canon}
use Rattle.cofj.specs.Unfolding.{Whole}
use Rattle.cofj.specs.Running.{Outcome, value, stopped}

-- every item of the list
abbrev pub AllIn : {A : Type 0} → (A → Type 0) → List A → Type 0
AllIn P [] = Unit {0}
AllIn P (x ∷ xs) = P x × AllIn P xs

-- a mark is that of one of the first k open calls, with k = 0 there is none; a number is one of the language's
abbrev pub LeafBelow : ℕ → Leaf → Type 0
LeafBelow k (mark x) = x < k
LeafBelow k undet = Unit {0}
LeafBelow k (num n) = n < number_count

abbrev pub RefBelow : ℕ → Ref → Type 0
RefBelow k (obj i) = Unit {0}
RefBelow k (leaf l) = LeafBelow k l

-- an object of a known class, with a value for each of its fields
pub record Formed (t : Table) (k : ℕ) (n : Node) : Type 0 where
  pub known : n.cls ≤ length t.classes
  pub count : length n.refs ≡ length (fields_of t.classes n.cls)
  pub leaves : AllIn (RefBelow k) n.refs

-- a value while k left-side calls are open, with at most so many objects
pub record Good (t : Table) (objects k : ℕ) (v : Graph) : Type 0 where
  pub whole : Whole v
  -- canonical: its own canonical form
  pub own : canon v ≡ v
  pub small : length v.nodes ≤ objects
  pub root : RefBelow k v.root
  pub nodes : AllIn (Formed t k) v.nodes

-- what holds of an input, if there is one
abbrev pub IfAny : {A : Type 0} → (A → Type 0) → Option A → Type 0
IfAny P none = Unit {0}
IfAny P (some a) = P a

-- what holds of an outcome's value
abbrev pub Out : {A : Type 0} → (A → Type 0) → Outcome A → Type 0
Out P (value a n) = P a
Out P (stopped l n) = Unit {0}
