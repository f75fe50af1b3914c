-- A mark bound to an object of a block, the objects left where they are; and objects of which no two are the same.
-- Not here: which of them are merged (crate canon, Parting and Classing), a value in which the mark does not occur.
use Rattle.std.specs.declared.option.Option.{Option as RustOption}
use Rattle.std.specs.Prelude.{Some, ℕ, ◌+◌, ◌*◌, ◌≤◌, ◌<◌, ◌≡◌, Bool, true, not, cond, List, eqb, length, get_or}
use Rattle.cofj.specs.Values.{obj}
use Rattle.cofj.specs.Unfolding.{Same}
use Rattle.canon.specs.Figures.{object_size, head_size, code_count, numbers_at, first_mark, objects_size, block_size}
use Rattle.canon.specs.Layout.{number_at, nodes_in, count_in, Distinct, Raw}
use Rattle.canon.specs.Tables.{on_codes}
use Rattle.values.specs.Tests.{any}

-- a code bound: the code `hot` is turned to object i
unfoldable pub bound_code : ℕ → ℕ → ℕ → ℕ
bound_code hot i c = cond (eqb c hot) i c

-- byte k of an object, its codes bound
abbrev pub bound_byte : ℕ → ℕ → ℕ → ℕ → ℕ
bound_byte hot i = on_codes (bound_code hot i)

-- the object at a place of R₀ bound; the other bytes are R₀'s
pub record ObjectBound (R₀ : List ℕ) (p hot i : ℕ) (R : List ℕ) : Type 0 where
  pub same : length R ≡ length R₀
  pub here : (f : ℕ) → f < object_size → get_or R (p + f) 0 ≡ bound_byte hot i f (get_or R₀ (p + f) 0)
  pub below : (y : ℕ) → y < p → get_or R y 0 ≡ get_or R₀ y 0
  pub above : (y : ℕ) → p + object_size ≤ y → get_or R y 0 ≡ get_or R₀ y 0

-- the first n objects of R₀ bound; the other bytes are R₀'s
pub record AllBound (R₀ : List ℕ) (n hot i : ℕ) (R : List ℕ) : Type 0 where
  pub same : length R ≡ length R₀
  pub here : (j f : ℕ) → j < n → f < object_size → get_or R (object_size * j + f) 0 ≡ bound_byte hot i f (get_or R₀ (object_size * j + f) 0)
  pub above : (y : ℕ) → object_size * n ≤ y → get_or R y 0 ≡ get_or R₀ y 0

-- the first n objects of block b, bound, at the front of R
pub record ObjectsBound (W : List ℕ) (b hot i n : ℕ) (R : List ℕ) : Type 0 where
  pub here : (j f : ℕ) → j < n → f < object_size → get_or R (object_size * j + f) 0 ≡ bound_byte hot i f (get_or W (block_size * b + object_size * j + f) 0)

-- all of them, with mark x bound to object i
pub record Bound (W : List ℕ) (b x i : ℕ) (R : List ℕ) (n : ℕ) : Type 0 where
  pub count : n ≡ count_in W b
  pub objects : ObjectsBound W b (first_mark + x) i n R
  pub room : objects_size ≤ length R

-- whether one of the four codes of the object at a place is i
unfoldable pub refers_to : List ℕ → ℕ → ℕ → Bool
refers_to W p i = any (λ f. eqb (get_or W (p + 2 + f) 0) i) 4

-- whether none of the first n objects of block b refers to object i
unfoldable pub none_refer : List ℕ → ℕ → ℕ → ℕ → Bool
none_refer W b n i = not (any (λ k. refers_to W (block_size * b + object_size * k) i) n)

-- a field whose codes or numbers differ, or none
pub record OtherField (R : List ℕ) (x y : ℕ) (o : RustOption ℕ) : Type 0 where
  pub low : (f : ℕ) → o ≡ Some f → f < code_count
  pub other : (f : ℕ) → o ≡ Some f → get_or R (object_size * x + head_size + f) 0 ≡ get_or R (object_size * y + head_size + f) 0
      → number_at R (object_size * x + numbers_at + 2 * f) ≡ number_at R (object_size * y + numbers_at + 2 * f) → ⊥

-- objects i and k of n unfold to the same tree only if x and y do
pub record Leads (R : List ℕ) (n i k x y : ℕ) : Type 0 where
  pub first : x < n
  pub second : y < n
  pub leads : Same (nodes_in R 0 n) (obj i) (nodes_in R 0 n) (obj k) → Same (nodes_in R 0 n) (obj x) (nodes_in R 0 n) (obj y)

-- true only if objects i and k of n unfold to different trees
pub record DifferTest (R : List ℕ) (n i k : ℕ) (r : Bool) : Type 0 where
  pub yes : r ≡ true → Same (nodes_in R 0 n) (obj i) (nodes_in R 0 n) (obj k) → ⊥

-- true only if k is i or they do
pub record UnlikeTest (R : List ℕ) (n i k : ℕ) (r : Bool) : Type 0 where
  pub yes : r ≡ true → Same (nodes_in R 0 n) (obj i) (nodes_in R 0 n) (obj k) → k ≡ i

-- of the first m of n objects only object i unfolds to object i's tree
pub record UnlikeOthers (R : List ℕ) (n i m : ℕ) : Type 0 where
  pub only : (k : ℕ) → k < m → Same (nodes_in R 0 n) (obj i) (nodes_in R 0 n) (obj k) → k ≡ i

pub record OthersTest (R : List ℕ) (n i : ℕ) (r : Bool) : Type 0 where
  pub yes : r ≡ true → UnlikeOthers R n i n

pub record DistinctTest (R : List ℕ) (n : ℕ) (r : Bool) : Type 0 where
  pub yes : r ≡ true → Distinct (nodes_in R 0 n)

-- n objects, one of them the root, and room for their block
pub record Rooted (R : List ℕ) (n i : ℕ) (W : List ℕ) (dst : ℕ) : Type 0 where
  pub raw : Raw R n
  pub inside : i < n
  pub room : block_size * dst + block_size ≤ length W
