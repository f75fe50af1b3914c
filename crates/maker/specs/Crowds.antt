-- More objects than a block has room for: too_many of which no two are the same, all in one value. What stands in a value.
use Rattle.std.specs.Prelude.{ℕ, ◌<◌, ◌≡◌, List, ◌++◌}
use Rattle.cofj.specs.Values.{Node, Graph, obj}
use Rattle.cofj.specs.Unfolding.{follow, Same}
use Rattle.canon.specs.Layout.{count_in, objects_in}
use Rattle.maker.specs.Figures.{too_many}

-- object x of ns stands in the value g, at the end of a path from its root
pub record In (ns : List Node) (x : ℕ) (g : Graph) : Type 0 where
  pub path : List ℕ
  pub tree : (q : List ℕ) → follow ns (obj x) q ≡ follow g.nodes g.root (path ++ q)

-- the value h stands in the value g
pub record Within (h g : Graph) : Type 0 where
  pub path : List ℕ
  pub tree : (q : List ℕ) → follow h.nodes h.root q ≡ follow g.nodes g.root (path ++ q)

-- all objects of block b stand in g
abbrev pub BlockIn : List ℕ → ℕ → Graph → Type 0
BlockIn W b g = (y : ℕ) → y < count_in W b → In (objects_in W b) y g

-- so many objects: object `at k` of the list `list k`, for each k
pub record Crowd (g : Graph) : Type 0 where
  pub list : ℕ → List Node
  pub at : ℕ → ℕ
  pub inside : (k : ℕ) → k < too_many → In (list k) (at k) g
  pub apart : (k l : ℕ) → k < too_many → l < too_many → Same (list k) (obj (at k)) (list l) (obj (at l)) → k ≡ l
