-- Bytes that a function of their place gives, runs of bytes copied, and objects copied with their codes turned.
use Rattle.std.specs.Prelude.{ℕ, zero, suc, ◌+◌, ◌*◌, ◌%◌, ◌≤◌, ◌<◌, ◌≡◌, Bool, true, false, cond, List, eqb, ltb, length, get_or}
use Rattle.canon.specs.Figures.{object_size, head_size, numbers_at, first_leaf, three_bytes, four_bytes}

-- the first n bytes are F 0, F 1, ..
pub record Filled (F : ℕ → ℕ) (n : ℕ) (A : List ℕ) : Type 0 where
  pub at : (i : ℕ) → i < n → get_or A i 0 ≡ F i

-- they are below n
pub record Below (n : ℕ) (A : List ℕ) : Type 0 where
  pub room : n ≤ length A
  pub low : (i : ℕ) → i < n → get_or A i 0 < n

-- the first n bytes are 0
abbrev pub Zeros : ℕ → List ℕ → Type 0
Zeros = Filled (λ i. 0)

-- how many of the first k bytes are 0
unfoldable pub zero_count : ℕ → List ℕ → ℕ
zero_count zero S = 0
zero_count (suc k) S = cond (eqb (get_or S k 0) 0) 1 0 + zero_count k S

-- four bytes, two, and eight as one number
abbrev pub four_at : List ℕ → ℕ → ℕ
four_at S p = get_or S p 0 + 256 * get_or S (p + 1) 0 + 65536 * get_or S (p + 2) 0 + three_bytes * get_or S (p + 3) 0

pub record Four (S : List ℕ) (p r : ℕ) : Type 0 where
  pub is : r ≡ four_at S p
  pub low0 : get_or S p 0 < 256
  pub low1 : get_or S (p + 1) 0 < 256
  pub low2 : get_or S (p + 2) 0 < 256
  pub low3 : get_or S (p + 3) 0 < 256

pub record Two (S : List ℕ) (p r : ℕ) : Type 0 where
  pub is : r ≡ get_or S p 0 + 256 * get_or S (p + 1) 0
  pub low0 : get_or S p 0 < 256
  pub low1 : get_or S (p + 1) 0 < 256

pub record Eight (S : List ℕ) (p r : ℕ) : Type 0 where
  pub low : ℕ
  pub high : ℕ
  pub first : Four S p low
  pub last : Four S (p + 4) high
  pub is : r ≡ low + four_bytes * high

-- two objects have the same bytes where no codes stand, and whether they have
pub record Plain (S : List ℕ) (p q : ℕ) : Type 0 where
  pub head : (k : ℕ) → k < head_size → get_or S (p + k) 0 ≡ get_or S (q + k) 0
  pub rest : (k : ℕ) → numbers_at ≤ k → k < object_size → get_or S (p + k) 0 ≡ get_or S (q + k) 0

pub record PlainTest (S : List ℕ) (p q : ℕ) (r : Bool) : Type 0 where
  pub yes : r ≡ true → Plain S p q
  pub not : r ≡ false → Plain S p q → ⊥

-- n bytes of S from a place on, at a place of D; the others are D₀'s
pub record Carried (S : List ℕ) (from : ℕ) (D₀ : List ℕ) (to n : ℕ) (D : List ℕ) : Type 0 where
  pub same : length D ≡ length D₀
  pub here : (k : ℕ) → k < n → get_or D (to + k) 0 ≡ get_or S (from + k) 0
  pub below : (p : ℕ) → p < to → get_or D p 0 ≡ get_or D₀ p 0
  pub above : (p : ℕ) → to + n ≤ p → get_or D p 0 ≡ get_or D₀ p 0

-- a code turned: an object by the table T, any other code itself
unfoldable pub turned : List ℕ → ℕ → ℕ
turned T b = cond (ltb b first_leaf) (get_or T b 0) b

-- byte k of an object with its codes read by G
unfoldable pub on_codes : (ℕ → ℕ) → ℕ → ℕ → ℕ
on_codes G k b = cond (ltb k head_size) b (cond (ltb k numbers_at) (G b) b)

-- with its codes turned
abbrev pub copied : List ℕ → ℕ → ℕ → ℕ
copied T = on_codes (turned T)

-- p bytes of objects from a place of S on, and an entry of the table for every object that their codes name
pub record Turnable (S : List ℕ) (from p : ℕ) (T : List ℕ) : Type 0 where
  pub room : from + p ≤ length S
  pub low : (q : ℕ) → q < p → head_size ≤ q % object_size → q % object_size < numbers_at → get_or S (from + q) 0 < first_leaf → get_or S (from + q) 0 < length T

-- p bytes of objects copied from a place of S to a place of D; the others are D₀'s
pub record Lifted (S : List ℕ) (from p : ℕ) (T D₀ : List ℕ) (to : ℕ) (D : List ℕ) : Type 0 where
  pub same : length D ≡ length D₀
  pub here : (q : ℕ) → q < p → get_or D (to + q) 0 ≡ copied T (q % object_size) (get_or S (from + q) 0)
  pub below : (q : ℕ) → q < to → get_or D q 0 ≡ get_or D₀ q 0
  pub above : (q : ℕ) → to + p ≤ q → get_or D q 0 ≡ get_or D₀ q 0
