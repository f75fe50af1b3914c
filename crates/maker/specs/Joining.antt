-- The new objects of a part, which lies in block src, added to the host, rings too: their numbers there, their bytes, and the host then.
-- Not here: which objects are new (Sorting).
use Rattle.std.specs.Prelude.{ℕ, ◌+◌, ◌-◌, ◌*◌, ◌≤◌, ◌<◌, ◌≡◌, Bool, true, false, cond, List, map, ◌⊎◌, eqb, length, get_or, Some, None}
use Rattle.std.specs.declared.option.Option.{Option}
use Rattle.cofj.specs.Values.{obj}
use Rattle.cofj.specs.Unfolding.{Same}
use Rattle.canon.specs.Figures.{object_size, head_size, code_count, first_mark, capacity, count_at, block_size}
use Rattle.canon.specs.Layout.{count_in, level_in, reach_in, objects_in, Block, Outside}
use Rattle.canon.specs.Tables.{copied}
use Rattle.maker.specs.Figures.{not_told, too_many}
use Rattle.maker.specs.Merging.{Grown, Mapped}
use Rattle.maker.specs.Sorting.{Sorted, Settled, Decided}

-- the table of told objects as canon has one for turning codes: k for object k, not_told for one that is not told
unfoldable pub numbers_of : List ℕ → List ℕ
numbers_of T = map (λ k. cond (eqb k 0) not_told (k - 1)) T

-- ---- the numbers
-- object x is new
abbrev pub New : List Bool → ℕ → Type 0
New F x = get_or F x false ≡ true

-- the new ones of the first n objects are among the first k
pub record NewAmong (n : ℕ) (F : List Bool) (k : ℕ) : Type 0 where
  pub few : k ≤ n
  pub low : (x : ℕ) → x < n → New F x → x < k

-- each new one of the first n objects has a number of its own, from t on and below m
pub record Numbered (n t : ℕ) (F : List Bool) (T : List ℕ) (m : ℕ) : Type 0 where
  pub low : (x : ℕ) → x < n → New F x → t < get_or T x 0
  pub high : (x : ℕ) → x < n → New F x → get_or T x 0 ≤ m
  pub one : (x y : ℕ) → x < n → y < n → New F x → New F y → get_or T x 0 ≡ get_or T y 0 → x ≡ y

-- number k - 1 is that of a new one of them
pub record Given (n : ℕ) (F : List Bool) (T : List ℕ) (k : ℕ) : Type 0 where
  pub source : ℕ
  pub below : source < n
  pub new : New F source
  pub at : get_or T source 0 ≡ k

-- they have the numbers from t on, all that are below m; T' is T for the other objects
pub record Counted (n t : ℕ) (T : List ℕ) (F : List Bool) (T' : List ℕ) (m : ℕ) : Type 0 where
  pub same : length T' ≡ length T
  pub most : t ≤ m
  pub kept : (x : ℕ) → get_or F x false ≡ false → get_or T' x 0 ≡ get_or T x 0
  pub numbered : Numbered n t F T' m
  pub from : (k : ℕ) → t < k → k ≤ m → Given n F T' k

-- more new objects than there is room for: those with the numbers from t to capacity
pub record Overfull (n t : ℕ) (F : List Bool) : Type 0 where
  pub from : ℕ → ℕ
  pub low : (k : ℕ) → t ≤ k → k < too_many → from k < n
  pub new : (k : ℕ) → t ≤ k → k < too_many → New F (from k)
  pub one : (k l : ℕ) → t ≤ k → k < too_many → t ≤ l → l < too_many → from k ≡ from l → k ≡ l

-- the answer is how many objects the host then has, which are not too many if it had none too many; none if there is no room
pub record Fitted (n t : ℕ) (T : List ℕ) (F : List Bool) (T' : List ℕ) (o : Option ℕ) : Type 0 where
  pub counted : (m : ℕ) → o ≡ Some m → Counted n t T F T' m
  pub few : (m : ℕ) → o ≡ Some m → t ≤ capacity → m ≤ capacity
  pub over : o ≡ None → Overfull n t F

-- ---- the bytes
pub record Placing (W : List ℕ) (src host : ℕ) (T : List ℕ) (F : List Bool) : Type 0 where
  pub source : Block W src
  pub target : Block W host
  pub apart : (src ≡ host) → ⊥
  pub told : length T ≡ capacity
  pub marked : length F ≡ capacity
  pub numbered : Numbered (count_in W src) (count_in W host) F T capacity

-- the new ones of the first n objects have their places in the host, after its objects; the other bytes are W's
pub record Laid (W : List ℕ) (src host : ℕ) (T : List ℕ) (F : List Bool) (n : ℕ) (W' : List ℕ) : Type 0 where
  pub same : length W' ≡ length W
  pub here : (x k : ℕ) → x < n → New F x → k < object_size → get_or W' (block_size * host + object_size * (get_or T x 0 - 1) + k) 0 ≡ copied (numbers_of T) k (get_or W (block_size * src + object_size * x + k) 0)
  pub below : (p : ℕ) → p < block_size * host + object_size * count_in W host → get_or W' p 0 ≡ get_or W p 0
  pub above : (p : ℕ) → block_size * host + count_at ≤ p → get_or W' p 0 ≡ get_or W p 0

-- and the host counts m objects
pub record Extended (W : List ℕ) (src host : ℕ) (T : List ℕ) (F : List Bool) (m : ℕ) (W' : List ℕ) : Type 0 where
  pub count : count_in W' host ≡ m
  pub reach : reach_in W' host ≡ m
  pub level : (i f : ℕ) → i < m → f < code_count → get_or W' (block_size * host + object_size * i + head_size + f) 0 < first_mark + level_in W' host
  pub here : (x k : ℕ) → x < count_in W src → New F x → k < object_size → get_or W' (block_size * host + object_size * (get_or T x 0 - 1) + k) 0 ≡ copied (numbers_of T) k (get_or W (block_size * src + object_size * x + k) 0)
  pub old : (q : ℕ) → q < object_size * count_in W host → get_or W' (block_size * host + q) 0 ≡ get_or W (block_size * host + q) 0
  pub outside : Outside host W W'

-- ---- the host
pub record Joining (W : List ℕ) (src host : ℕ) (T : List ℕ) (F : List Bool) : Type 0 where
  pub source : Block W src
  pub target : Block W host
  pub apart : (src ≡ host) → ⊥
  pub sorted : Sorted W src host T F
  pub settled : Settled W src T F

-- if there is room, each object of the host then is an old one or a new object of the part; if not, these are too many
pub record Joined (W : List ℕ) (src host : ℕ) (T : List ℕ) (F : List Bool) (W' T' : List ℕ) (r : Bool) : Type 0 where
  pub grown : Grown host W W'
  pub mapped : r ≡ true → Mapped W' src host T'
  pub told : r ≡ true → (x : ℕ) → Decided T F x → (get_or T' x 0 ≡ 0) → ⊥
  pub from : r ≡ true → (y : ℕ) → y < count_in W' host → (y < count_in W host) ⊎ ((x : ℕ) × New F x × Same (objects_in W src) (obj x) (objects_in W' host) (obj y))
  pub over : r ≡ false → Overfull (count_in W src) (count_in W host) F
