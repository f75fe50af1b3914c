-- An object of block src looked for among the objects of the host: what is known after each try.
-- Not here: what is known of all objects of block src (Sorting).
use Rattle.std.specs.Prelude.{ℕ, ◌+◌, ◌≡◌, Bool, true, false, List, get_or}
use Rattle.cofj.specs.Values.{obj}
use Rattle.cofj.specs.Unfolding.{Same}
use Rattle.canon.specs.Layout.{objects_in}
use Rattle.maker.specs.Merging.{CodeAs, Mapped}
use Rattle.maker.specs.Sorting.{Fresh, Sorted, Decided, Further}

-- whether object x of block src unfolds as object y of the host; if so, the table has them and what it had, if not, it is as before
pub record Telling (W : List ℕ) (src x host y : ℕ) (T T' : List ℕ) (r : Bool) : Type 0 where
  pub yes : r ≡ true → Mapped W src host T'
  pub here : r ≡ true → get_or T' x 0 ≡ y + 1
  pub kept : r ≡ true → (z k : ℕ) → get_or T z 0 ≡ k + 1 → get_or T' z 0 ≡ k + 1
  pub no : r ≡ false → T' ≡ T
  pub differ : r ≡ false → Same (objects_in W src) (obj x) (objects_in W host) (obj y) → ⊥

-- object x is none of the first y of the host, and the table T₀ is as before
pub record SoughtTo (W : List ℕ) (src x host : ℕ) (T₀ T : List ℕ) (y : ℕ) : Type 0 where
  pub same : T ≡ T₀
  pub none : Fresh (objects_in W src) (objects_in W host) y x

-- object x is decided, and marked as new if it is none of the host's; no other object is marked
pub record Sought (W : List ℕ) (src x host : ℕ) (T : List ℕ) (F : List Bool) (T' : List ℕ) (F' : List Bool) : Type 0 where
  pub sorted : Sorted W src host T' F'
  pub further : Further T F T' F'
  pub here : Decided T' F' x
  pub only : (z : ℕ) → get_or F' z false ≡ true → ((z ≡ x) → ⊥) → get_or F z false ≡ true

-- whether object i of block src is object i of the host; if not, the table is as before
pub record SameNumber (W : List ℕ) (src i host : ℕ) (T T' : List ℕ) (r : Bool) : Type 0 where
  pub yes : r ≡ true → CodeAs W src i host i
  pub no : r ≡ false → T' ≡ T
