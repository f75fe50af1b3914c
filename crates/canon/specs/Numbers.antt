-- The objects of a graph, merged and numbered, in a block.
use Rattle.std.specs.Prelude.{ℕ, ◌+◌, ◌-◌, ◌*◌, ◌≤◌, ◌<◌, ◌≡◌, cond, List, eqb, length, get_or, take}
use Rattle.cofj.specs.Values.{Graph, graph, obj, colours, canon}
use Rattle.canon.specs.Figures.{object_size, head_size, code_count, first_mark, block_size}
use Rattle.canon.specs.Layout.{nodes_in, Raw, Inside, graph_at, Outside}
use Rattle.canon.specs.Tables.{copied, Turnable}

-- an object's number by the table of its colour's place, and m for a colour that is not in it
unfoldable pub number_in : List ℕ → ℕ → ℕ → ℕ
number_in T m c = cond (eqb (get_or T c 0) 0) m (get_or T c 0 - 1)

-- m objects of N, as O lists them, whose codes T can turn
pub record Gatherable (N O : List ℕ) (m : ℕ) (T : List ℕ) : Type 0 where
  pub order : m ≤ length O
  pub each : (j : ℕ) → j < m → Turnable N (object_size * get_or O j 0) object_size T

-- objects of N, as O lists them, renamed by T, from a place of D on; the other bytes are D₀'s
pub record Gathered (N O : List ℕ) (m : ℕ) (T D₀ : List ℕ) (to : ℕ) (D : List ℕ) : Type 0 where
  pub same : length D ≡ length D₀
  pub here : (j k : ℕ) → j < m → k < object_size → get_or D (to + object_size * j + k) 0 ≡ copied T k (get_or N (object_size * get_or O j 0 + k) 0)
  pub below : (q : ℕ) → q < to → get_or D q 0 ≡ get_or D₀ q 0
  pub above : (q : ℕ) → to + object_size * m ≤ q → get_or D q 0 ≡ get_or D₀ q 0

-- r is not below m, nor below a code of the object at place p
pub record Above (W : List ℕ) (p m r : ℕ) : Type 0 where
  pub more : m ≤ r
  pub codes : (f : ℕ) → f < code_count → get_or W (p + head_size + f) 0 ≤ r

-- none of the codes of the n objects from a place on is first_mark + l or more
pub record Levels (W : List ℕ) (at n l : ℕ) : Type 0 where
  pub below : (i f : ℕ) → i < n → f < code_count → get_or W (at + object_size * i + head_size + f) 0 < first_mark + l

-- n objects with their colours, a root, and room for the block
pub record Ready (N : List ℕ) (n : ℕ) (C : List ℕ) (root : ℕ) (W : List ℕ) (dst : ℕ) : Type 0 where
  pub raw : Raw N n
  pub long : n ≤ length C
  pub coloured : take n C ≡ colours (nodes_in N 0 n)
  pub inside : root < n
  pub room : block_size * dst + block_size ≤ length W

abbrev pub graph_in : List ℕ → ℕ → ℕ → Graph
graph_in N n root = graph (obj root) (nodes_in N 0 n)

-- a block holds the value v from its first object on
pub record Has (W : List ℕ) (b : ℕ) (v : Graph) : Type 0 where
  pub inside : Inside W b 0
  pub is : graph_at W b 0 ≡ v

-- the value of the graph g is in block dst, from its first object on, and has r objects; nothing else has changed
pub record Placed (g : Graph) (W : List ℕ) (dst : ℕ) (W' : List ℕ) (r : ℕ) : Type 0 where
  pub count : r ≡ length (canon g).nodes
  pub has : Has W' dst (canon g)
  pub outside : Outside dst W W'
