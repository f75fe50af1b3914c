-- What an object of a block leads to, listed by going over the list: what is known while it grows.
-- Not here: what the whole list is (Sorting, Reached).
use Rattle.std.specs.Prelude.{ℕ, ◌+◌, ◌≤◌, ◌<◌, ◌≡◌, Bool, true, false, cond, List, map, length, get_or}
use Rattle.canon.specs.Figures.{code_count, first_leaf, capacity}
use Rattle.canon.specs.Layout.{count_in, objects_in, graph_at, Inside}
use Rattle.canon.specs.Tables.{zero_count}
use Rattle.maker.specs.Sorting.{code_at, Listed}
use Rattle.maker.specs.Crowds.{In}

-- whatever S has true for is one of the first t of L, and there is room for the others
pub record Noted (S : List Bool) (L : List ℕ) (t : ℕ) : Type 0 where
  pub seen : length S ≡ capacity
  pub list : length L ≡ capacity
  pub free : t + zero_count capacity (map (λ b. cond b 1 0) S) ≤ capacity
  pub listed : (x : ℕ) → get_or S x false ≡ true → Listed L t x

-- the code c met: the list of t objects in L₀ has r in L, with no other new one than c
pub record Met (L₀ : List ℕ) (t c : ℕ) (S : List Bool) (L : List ℕ) (r : ℕ) : Type 0 where
  pub noted : Noted S L r
  pub more : t ≤ r
  pub front : (q : ℕ) → q < t → get_or L q 0 ≡ get_or L₀ q 0
  pub new : (q : ℕ) → t ≤ q → q < r → get_or L q 0 ≡ c
  pub object : t < r → c < first_leaf
  pub here : c < first_leaf → Listed L r c

-- object y is what a code of object x of block src refers to
pub record FieldOf (W : List ℕ) (src x y : ℕ) : Type 0 where
  pub field : ℕ
  pub low : field < code_count
  pub object : code_at W src x field < first_leaf
  pub is : y ≡ code_at W src x field

-- the first k codes of object x of block src met
pub record FieldsMet (W : List ℕ) (src x k : ℕ) (L₀ : List ℕ) (t : ℕ) (S : List Bool) (L : List ℕ) (r : ℕ) : Type 0 where
  pub noted : Noted S L r
  pub more : t ≤ r
  pub front : (q : ℕ) → q < t → get_or L q 0 ≡ get_or L₀ q 0
  pub low : (q : ℕ) → t ≤ q → q < r → get_or L q 0 < count_in W src
  pub here : (f : ℕ) → f < k → code_at W src x f < first_leaf → Listed L r (code_at W src x f)
  pub new : (q : ℕ) → t ≤ q → q < r → FieldOf W src x (get_or L q 0)

-- t objects are listed, and the codes of the first h of them are met
pub record ReachedTo (W : List ℕ) (src i : ℕ) (S : List Bool) (L : List ℕ) (t h : ℕ) : Type 0 where
  pub inside : Inside W src i
  pub noted : Noted S L t
  pub low : (q : ℕ) → q < t → get_or L q 0 < count_in W src
  pub root : Listed L t i
  pub closed : (q f : ℕ) → q < h → f < code_count → code_at W src (get_or L q 0) f < first_leaf → Listed L t (code_at W src (get_or L q 0) f)
  pub led : (q : ℕ) → q < t → In (objects_in W src) (get_or L q 0) (graph_at W src i)
