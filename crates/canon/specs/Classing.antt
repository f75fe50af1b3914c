-- Colours by classes: the first object of each, and when they are done.
use Rattle.std.specs.Prelude.{ℕ, ◌+◌, ◌≤◌, ◌<◌, ◌≡◌, Bool, true, false, List, get_or}
use Rattle.cofj.specs.Values.{obj}
use Rattle.cofj.specs.Unfolding.{Same}
use Rattle.canon.specs.declared.rows.Row.{Row}
use Rattle.canon.specs.Figures.{object_size}
use Rattle.canon.specs.Layout.{nodes_in}
use Rattle.canon.specs.Tables.{copied}
use Rattle.canon.specs.Rows.{row_at}
use Rattle.canon.specs.Links.{AlikeTo}

-- whether object l is below i and of class d; object i is of row i + 1
pub record KnownTest (T : List Row) (i d l : ℕ) (r : Bool) : Type 0 where
  pub below : r ≡ true → l < i
  pub class : r ≡ true → (row_at T (l + 1)).class ≡ d
  pub not : r ≡ false → l < i → (row_at T (l + 1)).class ≡ d → ⊥

-- C gives each of n objects the first of its class
pub record Leads (T : List Row) (n : ℕ) (C : List ℕ) : Type 0 where
  pub low : (i : ℕ) → i < n → get_or C i 0 ≤ i
  pub same : (i : ℕ) → i < n → (row_at T (get_or C i 0 + 1)).class ≡ (row_at T (i + 1)).class
  pub agree : (i j : ℕ) → i < n → j < n → (row_at T (i + 1)).class ≡ (row_at T (j + 1)).class → get_or C i 0 ≡ get_or C j 0

-- the first n objects look by their colours as those that they have for colours
pub record Steady (N : List ℕ) (n : ℕ) (C : List ℕ) : Type 0 where
  pub alike : (i : ℕ) → i < n → AlikeTo (copied C) N i (get_or C i 0) object_size

pub record SteadyTest (N : List ℕ) (n : ℕ) (C : List ℕ) (r : Bool) : Type 0 where
  pub yes : r ≡ true → Steady N n C

-- colours, each an object of that colour, and objects that unfold to one tree have one
pub record Coarse (N : List ℕ) (n : ℕ) (C : List ℕ) : Type 0 where
  pub low : (i : ℕ) → i < n → get_or C i 0 ≤ i
  pub first : (i : ℕ) → i < n → get_or C (get_or C i 0) 0 ≡ get_or C i 0
  pub full : (i j : ℕ) → i < n → j < n → Same (nodes_in N 0 n) (obj i) (nodes_in N 0 n) (obj j) → get_or C i 0 ≡ get_or C j 0
