-- The objects of a part, which lies in block src, sorted out: which are objects of the host, and which are new to it.
-- Not here: the new ones added to the host (Joining).
use Rattle.std.specs.Prelude.{ℕ, ◌+◌, ◌*◌, ◌≤◌, ◌<◌, ◌≡◌, List, ◌⊎◌, Bool, true, false, cond, ltb, length, get_or, Some, None}
use Rattle.std.specs.declared.option.Option.{Option}
use Rattle.cofj.specs.Values.{Node, obj}
use Rattle.cofj.specs.Unfolding.{Same}
use Rattle.canon.specs.Figures.{object_size, head_size, code_count, numbers_at, first_leaf, capacity, block_size}
use Rattle.canon.specs.Layout.{count_in, objects_in, graph_at, Block}
use Rattle.canon.specs.Numbers.{number_in}
use Rattle.maker.specs.Figures.{not_told}
use Rattle.maker.specs.Adding.{codes_of}
use Rattle.maker.specs.Merging.{CodeAs, Mapped}
use Rattle.maker.specs.Crowds.{In}

-- object x of ps is none of the first t of ns
pub record Fresh (ps ns : List Node) (t x : ℕ) : Type 0 where
  pub none : (y : ℕ) → y < t → Same ps (obj x) ns (obj y) → ⊥

-- ---- what is known of the objects of block src
-- T has k + 1 for an object that unfolds as object k of the host; F has true for one that unfolds as none of them
pub record Sorted (W : List ℕ) (src host : ℕ) (T : List ℕ) (F : List Bool) : Type 0 where
  pub mapped : Mapped W src host T
  pub table : length F ≡ capacity
  pub low : (x : ℕ) → get_or F x false ≡ true → x < count_in W src
  pub fresh : (x : ℕ) → get_or F x false ≡ true → Fresh (objects_in W src) (objects_in W host) (count_in W host) x

-- one of the two tables has object x
abbrev pub Decided : List ℕ → List Bool → ℕ → Type 0
Decided T F x = ((get_or T x 0 ≡ 0) → ⊥) ⊎ (get_or F x false ≡ true)

-- code f of object x of block src
abbrev pub code_at : List ℕ → ℕ → ℕ → ℕ → ℕ
code_at W src x f = get_or W (block_size * src + object_size * x + head_size + f) 0

-- a code of the part in the host; not_told for an object that is not told
unfoldable pub turn_in : List ℕ → ℕ → ℕ
turn_in T c = cond (ltb c first_leaf) (number_in T not_told c) c

-- B has the bytes of object x of block src, its codes turned to codes of block host
pub record TurnedAs (W : List ℕ) (src x host : ℕ) (B : List ℕ) : Type 0 where
  pub cls : get_or B 0 0 ≡ get_or W (block_size * src + object_size * x) 0
  pub count : get_or B 1 0 ≡ get_or W (block_size * src + object_size * x + 1) 0
  pub code : (f : ℕ) → f < code_count → CodeAs W src (code_at W src x f) host (get_or B (2 + f) 0)
  pub rest : (k : ℕ) → numbers_at ≤ k → k < object_size → get_or B k 0 ≡ get_or W (block_size * src + object_size * x + k) 0

-- whatever a new object refers to is decided
pub record Settled (W : List ℕ) (src : ℕ) (T : List ℕ) (F : List Bool) : Type 0 where
  pub field : (x f : ℕ) → get_or F x false ≡ true → f < code_count → code_at W src x f < first_leaf → Decided T F (code_at W src x f)

-- ---- what an object leads to
-- x is one of the first m of L
abbrev pub Listed : List ℕ → ℕ → ℕ → Type 0
Listed L m x = (q : ℕ) × (q < m) × (get_or L q 0 ≡ x)

-- the first m of L are object i of block src and all that it leads to
pub record Reached (W : List ℕ) (src i : ℕ) (L : List ℕ) (m : ℕ) : Type 0 where
  pub few : m ≤ capacity
  pub long : length L ≡ capacity
  pub low : (q : ℕ) → q < m → get_or L q 0 < count_in W src
  pub root : Listed L m i
  pub closed : (q f : ℕ) → q < m → f < code_count → code_at W src (get_or L q 0) f < first_leaf → Listed L m (code_at W src (get_or L q 0) f)
  pub led : (q : ℕ) → q < m → In (objects_in W src) (get_or L q 0) (graph_at W src i)

-- ---- the listed objects sorted out
-- the first m of L are objects of block src, and the host is another block
pub record Ground (W : List ℕ) (src host : ℕ) (L : List ℕ) (m : ℕ) : Type 0 where
  pub source : Block W src
  pub target : Block W host
  pub few : m ≤ capacity
  pub long : length L ≡ capacity
  pub low : (q : ℕ) → q < m → get_or L q 0 < count_in W src

-- what is known so far; only listed ones are marked as new
pub record Sorting (W : List ℕ) (src host : ℕ) (L : List ℕ) (m : ℕ) (T : List ℕ) (F : List Bool) : Type 0 where
  pub ground : Ground W src host L m
  pub sorted : Sorted W src host T F
  pub listed : (x : ℕ) → get_or F x false ≡ true → Listed L m x

-- what was decided stays so
pub record Further (T : List ℕ) (F : List Bool) (T' : List ℕ) (F' : List Bool) : Type 0 where
  pub told : (x : ℕ) → ((get_or T x 0 ≡ 0) → ⊥) → (get_or T' x 0 ≡ 0) → ⊥
  pub fresh : (x : ℕ) → get_or F x false ≡ true → get_or F' x false ≡ true

-- more is known
pub record Onward (W : List ℕ) (src host : ℕ) (L : List ℕ) (m : ℕ) (T : List ℕ) (F : List Bool) (T' : List ℕ) (F' : List Bool) : Type 0 where
  pub sorting : Sorting W src host L m T' F'
  pub further : Further T F T' F'

-- and object x is decided
pub record Settling (W : List ℕ) (src host : ℕ) (L : List ℕ) (m x : ℕ) (T : List ℕ) (F : List Bool) (T' : List ℕ) (F' : List Bool) : Type 0 where
  pub onward : Onward W src host L m T F T' F'
  pub here : Decided T' F' x

-- if its fields tell
pub record ByFields (W : List ℕ) (src host : ℕ) (L : List ℕ) (m x : ℕ) (T : List ℕ) (F : List Bool) (T' : List ℕ) (F' : List Bool) (r : Bool) : Type 0 where
  pub onward : Onward W src host L m T F T' F'
  pub here : r ≡ true → Decided T' F' x

-- the listed ones from place q on are decided
pub record SortedFrom (W : List ℕ) (src host : ℕ) (L : List ℕ) (m q : ℕ) (T : List ℕ) (F : List Bool) : Type 0 where
  pub sorting : Sorting W src host L m T F
  pub above : (k : ℕ) → q ≤ k → k < m → Decided T F (get_or L k 0)

-- ---- what is looked at
-- whether nothing is known of object x
pub record OpenIs (T : List ℕ) (F : List Bool) (x : ℕ) (r : Bool) : Type 0 where
  pub yes : r ≡ true → (get_or T x 0 ≡ 0) × (get_or F x false ≡ false)
  pub no : r ≡ false → Decided T F x

-- a code of an object that is marked as new
pub record NewCode (F : List Bool) (c : ℕ) : Type 0 where
  pub object : c < first_leaf
  pub marked : get_or F c false ≡ true

pub record NewIs (F : List Bool) (c : ℕ) (r : Bool) : Type 0 where
  pub yes : r ≡ true → NewCode F c

-- one of the codes of object x is
pub record LeadsNew (W : List ℕ) (src x : ℕ) (F : List Bool) : Type 0 where
  pub field : ℕ
  pub low : field < code_count
  pub new : NewCode F (code_at W src x field)

pub record LeadsIs (W : List ℕ) (src x : ℕ) (F : List Bool) (r : Bool) : Type 0 where
  pub yes : r ≡ true → LeadsNew W src x F

-- the codes of object x from code k on in the host, as one number
pub record CodesTurned (W : List ℕ) (src x : ℕ) (T : List ℕ) (k w : ℕ) : Type 0 where
  pub code : (j : ℕ) → k + j < code_count → get_or (codes_of w) j 0 ≡ turn_in T (code_at W src x (k + j))
  pub told : (j : ℕ) → k + j < code_count → (turn_in T (code_at W src x (k + j)) ≡ not_told) → ⊥

abbrev pub TurnedIs : List ℕ → ℕ → ℕ → List ℕ → Option ℕ → Type 0
TurnedIs W src x T (Some w) = CodesTurned W src x T 0 w
TurnedIs W src x T None = Unit {0}
