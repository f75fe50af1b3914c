-- What a value unfolds to: document 01's "two values unfold to the same tree".
use Rattle.std.specs.Prelude.{ℕ, ◌<◌, ◌≡◌, List, [], ◌∷◌, length}
use Rattle.std.proofs.Math.Option.{Option, none, some}
use Rattle.std.proofs.Math.ListN.{get_elem?}
use Rattle.cofj.specs.Partial.{◌>>=◌}
use Rattle.cofj.specs.Values.{Ref, obj, leaf, Leaf, Node, Graph, node_at, refs_at, bind}

-- what stands at the end of a path
pub data Label : Type 0 where
  -- an object of this class, with so many fields
  object : ℕ → ℕ → Label
  -- a leaf agrees only with the same mark, undetermined, the same number
  at_leaf : Leaf → Label

abbrev pub label_at : List Node → Ref → Label
label_at ns (obj i) = object (node_at ns i).cls (length (refs_at ns i))
label_at ns (leaf l) = at_leaf l

abbrev pub child : List Node → Ref → ℕ → Option Ref
child ns (obj i) f = get_elem? (refs_at ns i) f
child ns (leaf l) f = none

-- the end of a list of field numbers, none where it cannot be followed
abbrev pub follow : List Node → Ref → List ℕ → Option Label
follow ns r [] = some (label_at ns r)
follow ns r (f ∷ p) = child ns r f >>= λ s. follow ns s p

abbrev pub Same : List Node → Ref → List Node → Ref → Type 0
Same ns r ms s = (p : List ℕ) → follow ns r p ≡ follow ms s p

-- the two graphs unfold to the same tree
abbrev pub SameTree : Graph → Graph → Type 0
SameTree g h = Same g.nodes g.root h.nodes h.root

-- the same where the mark x is bound to u: met on the way or at the end, it stands for u
abbrev pub follow_bound : ℕ → Ref → List Node → Ref → List ℕ → Option Label
follow_bound x u ns r [] = some (label_at ns (bind x u r))
follow_bound x u ns r (f ∷ p) = child ns (bind x u r) f >>= λ s. follow_bound x u ns s p

-- an object's number is below n
abbrev pub InRange : ℕ → Ref → Type 0
InRange n (obj i) = i < n
InRange n (leaf l) = Unit {0}

-- every reference is in range
pub record Whole (g : Graph) : Type 0 where
  pub top : InRange (length g.nodes) g.root
  pub inner : (i f : ℕ) (r : Ref) → get_elem? (refs_at g.nodes i) f ≡ some r → InRange (length g.nodes) r

abbrev pub AllWhole : List Graph → Type 0
AllWhole [] = Unit {0}
AllWhole (g ∷ gs) = Whole g × AllWhole gs

-- what child after child leads to
pub data Reached (ns : List Node) (root : Ref) : Ref → Type 0 where
  top : Reached ns root root
  below : {r : Ref} (f : ℕ) (s : Ref) → Reached ns root r → child ns r f ≡ some s → Reached ns root s
