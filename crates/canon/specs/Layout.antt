-- How references and objects lie in bytes (docs/VALUES.md), and when a block holds objects.
-- Not here: the figures (Figures), the values that they stand for (crate values, Layout), what is done with them.
use Rattle.std.specs.Prelude.{ℕ, zero, suc, ◌+◌, ◌-◌, ◌*◌, ◌≤◌, ◌<◌, ◌≡◌, Bool, false, cond, List, [], ◌∷◌, ltb, eqb, length, get_or, set, take, drop}
use Rattle.cofj.specs.Values.{Leaf, mark, undet, num, Ref, obj, leaf, Node, node, Graph, graph}
use Rattle.cofj.specs.Unfolding.{Same, Whole}
use Rattle.canon.specs.Figures.{object_size, head_size, code_count, numbers_at, blank_at, first_leaf, undetermined_code, number_code, first_mark, capacity, count_at, level_at, reach_at, block_size}

-- the leaf that a code stands for, with the number beside it, if it is no object's; every code is one
unfoldable pub leaf_from : ℕ → ℕ → Leaf
leaf_from b x = cond (eqb b undetermined_code) undet (cond (eqb b number_code) (num x) (mark (b - first_mark)))

-- the reference
unfoldable pub ref_of : ℕ → ℕ → Ref
ref_of b x = cond (ltb b first_leaf) (obj b) (leaf (leaf_from b x))

abbrev pub code_of : Ref → ℕ
code_of (obj i) = i
code_of (leaf (mark k)) = first_mark + k
code_of (leaf undet) = undetermined_code
code_of (leaf (num n)) = number_code

-- the number beside the code
abbrev pub number_beside : Ref → ℕ
number_beside (obj i) = 0
number_beside (leaf (mark k)) = 0
number_beside (leaf undet) = 0
number_beside (leaf (num n)) = n

-- a number of two bytes, the low one first
abbrev pub number_at : List ℕ → ℕ → ℕ
number_at S p = get_or S p 0 + 256 * get_or S (p + 1) 0

-- field f of the object at a place
unfoldable pub ref_in : List ℕ → ℕ → ℕ → Ref
ref_in S at f = ref_of (get_or S (at + head_size + f) 0) (number_at S (at + numbers_at + 2 * f))

-- all four codes, used or not
abbrev pub four : List ℕ → ℕ → List Ref
four S at = ref_in S at 0 ∷ ref_in S at 1 ∷ ref_in S at 2 ∷ ref_in S at 3 ∷ []

-- the object: class, and as many fields as it has
unfoldable pub node_in : List ℕ → ℕ → Node
node_in S at = node (get_or S at 0) (take (get_or S (at + 1) 0) (four S at))

-- n objects from a place on
unfoldable pub nodes_in : List ℕ → ℕ → ℕ → List Node
nodes_in S at zero = []
nodes_in S at (suc n) = node_in S at ∷ nodes_in S (at + object_size) n

-- at most four fields, and the codes of the others undetermined; a number only beside its code, of two bytes; nothing after the numbers
pub record Packed (S : List ℕ) (at : ℕ) : Type 0 where
  pub count : get_or S (at + 1) 0 ≤ code_count
  pub spare : (k : ℕ) → head_size + get_or S (at + 1) 0 ≤ k → k < numbers_at → get_or S (at + k) 0 ≡ undetermined_code
  pub plain : (f : ℕ) → f < code_count → ((get_or S (at + head_size + f) 0 ≡ number_code) → ⊥) → number_at S (at + numbers_at + 2 * f) ≡ 0
  pub low : (f : ℕ) → f < code_count → get_or S (at + numbers_at + 2 * f) 0 < 256
  pub blank : (k : ℕ) → blank_at ≤ k → k < object_size → get_or S (at + k) 0 ≡ 0

-- n objects from the start on, no more than a block has room for, which refer to one another
pub record Raw (N : List ℕ) (n : ℕ) : Type 0 where
  pub few : n ≤ capacity
  pub room : object_size * n ≤ length N
  pub packed : (i : ℕ) → i < n → Packed N (object_size * i)
  pub whole : Whole (graph (leaf undet) (nodes_in N 0 n))

-- n objects from the start on whose codes name no other object than these
pub record Codes (N : List ℕ) (n : ℕ) : Type 0 where
  pub few : n ≤ capacity
  pub room : object_size * n ≤ length N
  pub low : (i f : ℕ) → i < n → f < code_count → get_or N (object_size * i + head_size + f) 0 < first_leaf → get_or N (object_size * i + head_size + f) 0 < n

-- the objects at two places have one class and as many fields
pub record Alike (S : List ℕ) (p q : ℕ) : Type 0 where
  pub cls : get_or S p 0 ≡ get_or S q 0
  pub count : get_or S (p + 1) 0 ≡ get_or S (q + 1) 0

-- whether they have
unfoldable pub alike_at : List ℕ → ℕ → ℕ → Bool
alike_at S p q = cond (eqb (get_or S p 0) (get_or S q 0)) (eqb (get_or S (p + 1) 0) (get_or S (q + 1) 0)) false

-- n bytes from a place on
abbrev pub part : List ℕ → ℕ → ℕ → List ℕ
part S at n = take n (drop at S)

-- the objects that block b lists
unfoldable pub count_in : List ℕ → ℕ → ℕ
count_in W b = get_or W (block_size * b + count_at) 0

-- no code of these objects is first_mark + the level or more: so every mark in them is below the level
unfoldable pub level_in : List ℕ → ℕ → ℕ
level_in W b = get_or W (block_size * b + level_at) 0

-- none of these objects refers to an object of this number or a higher one
unfoldable pub reach_in : List ℕ → ℕ → ℕ
reach_in W b = get_or W (block_size * b + reach_at) 0

-- these three bytes of block b written
abbrev pub ended : List ℕ → ℕ → ℕ → ℕ → ℕ → List ℕ
ended W b n l m = set (set (set W (block_size * b + count_at) n) (block_size * b + level_at) l) (block_size * b + reach_at) m

-- the objects in block b, and the graph from object i of them on
unfoldable pub objects_in : List ℕ → ℕ → List Node
objects_in W b = nodes_in W (block_size * b) (count_in W b)

abbrev pub graph_at : List ℕ → ℕ → ℕ → Graph
graph_at W b i = graph (obj i) (objects_in W b)

-- no two of the objects unfold to the same tree
pub record Distinct (ns : List Node) : Type 0 where
  pub apart : (i j : ℕ) → i < length ns → j < length ns → Same ns (obj i) ns (obj j) → i ≡ j

-- block b holds objects
pub record Block (W : List ℕ) (b : ℕ) : Type 0 where
  pub room : block_size * b + block_size ≤ length W
  pub small : count_in W b ≤ capacity
  pub packed : (i : ℕ) → i < count_in W b → Packed W (block_size * b + object_size * i)
  pub whole : Whole (graph (leaf undet) (objects_in W b))
  pub distinct : Distinct (objects_in W b)
  pub level : (i f : ℕ) → i < count_in W b → f < code_count → get_or W (block_size * b + object_size * i + head_size + f) 0 < first_mark + level_in W b
  pub reach : (i f : ℕ) → i < count_in W b → f < code_count → get_or W (block_size * b + object_size * i + head_size + f) 0 < first_leaf → get_or W (block_size * b + object_size * i + head_size + f) 0 < reach_in W b

-- and object i is one of them
pub record Inside (W : List ℕ) (b i : ℕ) : Type 0 where
  pub block : Block W b
  pub low : i < count_in W b

-- every byte outside block b is as before
pub record Outside (b : ℕ) (W W' : List ℕ) : Type 0 where
  pub same : length W' ≡ length W
  pub below : (p : ℕ) → p < block_size * b → get_or W' p 0 ≡ get_or W p 0
  pub above : (p : ℕ) → block_size * b + block_size ≤ p → get_or W' p 0 ≡ get_or W p 0

-- every byte below block b is as before
pub record Beneath (b : ℕ) (W W' : List ℕ) : Type 0 where
  pub same : length W' ≡ length W
  pub below : (p : ℕ) → p < block_size * b → get_or W' p 0 ≡ get_or W p 0
