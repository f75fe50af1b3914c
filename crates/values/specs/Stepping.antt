-- Objects of two blocks compared in step: a table of pairs, and a queue of the first block's objects that are paired.
-- Not here: objects of one block, of which no two are the same.
use Rattle.std.specs.declared.option.Option.{Option as RustOption}
use Rattle.std.specs.Prelude.{Some, None, ℕ, ◌+◌, ◌*◌, ◌≤◌, ◌<◌, ◌≡◌, Bool, true, false, cond, List, ◌⊎◌, eqb, ltb, length, get_or, set}
use Rattle.cofj.specs.Values.{obj}
use Rattle.cofj.specs.Unfolding.{Same}
use Rattle.canon.specs.Figures.{object_size, head_size, numbers_at, first_leaf, capacity, block_size}
use Rattle.canon.specs.Tables.{zero_count}
use Rattle.canon.specs.Layout.{number_at, Alike, count_in, objects_in, Block, Inside}

-- the length of the queue (none where two things differ), the table and the queue
pub record After : Type 0 where
  pub tail : RustOption ℕ
  pub table : List ℕ
  pub queue : List ℕ

abbrev pub after : RustOption ℕ → List ℕ → List ℕ → After
after t T Q = record { tail = t; table = T; queue = Q }

-- a code of the first block and the number beside it met with those of the second: objects are paired, unless the first has a partner already
unfoldable pub step_code : List ℕ → List ℕ → ℕ → ℕ → ℕ → ℕ → ℕ → After
step_code T Q t a m b n =
    cond (ltb a first_leaf)
    (cond (ltb b first_leaf)
    (cond (eqb (get_or T a 0) 0) (after (Some (t + 1)) (set T a (b + 1)) (set Q t a)) (cond (eqb (get_or T a 0) (b + 1)) (after (Some t) T Q) (after None T Q)))
    (after None T Q))
    (cond (eqb a b) (cond (eqb m n) (after (Some t) T Q) (after None T Q)) (after None T Q))

-- room for a new pair of a and b, and a byte for its mark: the objects of a block are few
pub record CodeFits (T Q : List ℕ) (t a b : ℕ) : Type 0 where
  pub entry : a < first_leaf → a < length T
  pub room : a < first_leaf → get_or T a 0 ≡ 0 → t < length Q
  pub few : t ≤ capacity
  pub mark : b < first_leaf → b + 1 ≤ capacity

-- object x of block b is paired with object y of block c where the table has y + 1 for x; the queue lists the paired objects, but those that are known to unfold to
-- their partners' trees: they need not be gone over. Comparing begins with none such, merging with those that have codes
pub record Paired (W : List ℕ) (b c : ℕ) (T Q : List ℕ) (t : ℕ) : Type 0 where
  pub table : length T ≡ capacity
  pub queue : length Q ≡ capacity
  pub free : t + zero_count capacity T ≤ capacity
  pub low : (q : ℕ) → q < t → get_or Q q 0 < count_in W b
  pub there : (q : ℕ) → q < t → (get_or T (get_or Q q 0) 0 ≡ 0) → ⊥
  pub listed : (x y : ℕ) → get_or T x 0 ≡ y + 1 → ((q : ℕ) × (q < t) × (get_or Q q 0 ≡ x)) ⊎ Same (objects_in W b) (obj x) (objects_in W c) (obj y)
  pub within : (x y : ℕ) → get_or T x 0 ≡ y + 1 → y < count_in W c

-- each pair unfolds to one tree
pub record AllSame (W : List ℕ) (b c : ℕ) (T : List ℕ) : Type 0 where
  pub same : (x y : ℕ) → get_or T x 0 ≡ y + 1 → Same (objects_in W b) (obj x) (objects_in W c) (obj y)

-- pairs were added, each the same if those before were
pub record Grown (W : List ℕ) (b c : ℕ) (T₀ Q₀ : List ℕ) (t₀ : ℕ) (T Q : List ℕ) (t : ℕ) : Type 0 where
  pub more : t₀ ≤ t
  pub pairs : (x y : ℕ) → get_or T₀ x 0 ≡ y + 1 → get_or T x 0 ≡ y + 1
  pub front : (q : ℕ) → q < t₀ → get_or Q q 0 ≡ get_or Q₀ q 0
  pub keeps : AllSame W b c T₀ → AllSame W b c T

-- equal codes and numbers, or objects that are paired
pub record Linked (T : List ℕ) (a m b n : ℕ) : Type 0 where
  pub leaf : first_leaf ≤ a → a ≡ b
  pub number : first_leaf ≤ a → m ≡ n
  pub pair : a < first_leaf → get_or T a 0 ≡ b + 1

-- the first k fields of object x of block b are linked with those of object y of block c
pub record LinkedTo (W : List ℕ) (b x c y : ℕ) (T : List ℕ) (k : ℕ) : Type 0 where
  pub codes : (f : ℕ) → f < k → Linked T (get_or W (block_size * b + object_size * x + head_size + f) 0) (number_at W (block_size * b + object_size * x + numbers_at + 2 * f))
      (get_or W (block_size * c + object_size * y + head_size + f) 0) (number_at W (block_size * c + object_size * y + numbers_at + 2 * f))

-- object x of block b and object y of block c are a pair of the table
pub record Pair (W : List ℕ) (b x c y : ℕ) (T Q : List ℕ) (t : ℕ) : Type 0 where
  pub first : Inside W b x
  pub second : Inside W c y
  pub paired : Paired W b c T Q t
  pub some : 0 < t
  pub here : get_or T x 0 ≡ y + 1

-- the first k fields of a pair gone over
pub record FieldsSoFar (W : List ℕ) (b x c y : ℕ) (T₀ Q₀ : List ℕ) (t₀ : ℕ) (T Q : List ℕ) (t k : ℕ) : Type 0 where
  pub start : Pair W b x c y T₀ Q₀ t₀
  pub alike : Alike W (block_size * b + object_size * x) (block_size * c + object_size * y)
  pub grown : Grown W b c T₀ Q₀ t₀ T Q t
  pub paired : Paired W b c T Q t
  pub fields : LinkedTo W b x c y T k

-- alike, and all fields are linked
pub record Closed (W : List ℕ) (b x c y : ℕ) (T : List ℕ) : Type 0 where
  pub alike : Alike W (block_size * b + object_size * x) (block_size * c + object_size * y)
  pub fields : LinkedTo W b x c y T (get_or W (block_size * b + object_size * x + 1) 0)

-- the first h objects of the queue are so, each with its partner
pub record ClosedTo (W : List ℕ) (b c : ℕ) (T Q : List ℕ) (h : ℕ) : Type 0 where
  pub before : (q : ℕ) → q < h → (y : ℕ) → get_or T (get_or Q q 0) 0 ≡ y + 1 → Closed W b (get_or Q q 0) c y T

-- the same, with the pairs added
pub record PairsSoFar (W : List ℕ) (b c : ℕ) (T₀ Q₀ T Q : List ℕ) (t h : ℕ) : Type 0 where
  pub first : Block W b
  pub second : Block W c
  pub grown : Grown W b c T₀ Q₀ 1 T Q t
  pub paired : Paired W b c T Q t
  pub closed : ClosedTo W b c T Q h

-- one pair gone over; none if the two differ
pub record ObjectStep (W : List ℕ) (b x c y : ℕ) (T₀ Q₀ : List ℕ) (t : ℕ) (T Q : List ℕ) (r : RustOption ℕ) : Type 0 where
  pub differ : r ≡ None → AllSame W b c T₀ → ⊥
  pub grown : (u : ℕ) → r ≡ Some u → Grown W b c T₀ Q₀ t T Q u
  pub paired : (u : ℕ) → r ≡ Some u → Paired W b c T Q u
  pub closed : (u : ℕ) → r ≡ Some u → Closed W b x c y T

-- whether each pair unfolds to one tree; if so, those added do too
pub record InStep (W : List ℕ) (b c : ℕ) (T₀ T : List ℕ) (r : Bool) : Type 0 where
  pub pairs : r ≡ true → (x y : ℕ) → get_or T₀ x 0 ≡ y + 1 → get_or T x 0 ≡ y + 1
  pub yes : r ≡ true → AllSame W b c T
  pub within : r ≡ true → (x y : ℕ) → get_or T x 0 ≡ y + 1 → y < count_in W c
  pub no : r ≡ false → AllSame W b c T₀ → ⊥
