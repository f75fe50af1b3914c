-- What the functions answer of overriding in a table's bytes B. Not here: that this is the language's rule (proofs/OnTables).
use Rattle.std.specs.Prelude.{Some, None, ℕ, zero, suc, ◌+◌, ◌*◌, ◌%◌, Bool, true, ◌&&◌, List, eqb, get_or}
use Rattle.std.specs.declared.option.Option.{Option}
use Rattle.classes.specs.Figures.{method_count_at}
use Rattle.classes.specs.declared.methods.Found.{Found}
use Rattle.classes.specs.Machine.{up, lookup_of, row_of}

-- the k bytes from a and from b on are the same
unfoldable pub same_from : List ℕ → ℕ → ℕ → ℕ → Bool
same_from B a b zero = true
same_from B a b (suc k) = eqb (get_or B a 0) (get_or B b 0) && same_from B (a + 1) (b + 1) k

-- methods i and j have the same types
unfoldable pub same_as : List ℕ → ℕ → ℕ → Bool
same_as B i j = same_from B (row_of i + 3) (row_of j + 3) (5 + 2 * (get_or B (row_of i + 7) 0 % 4))

abbrev pub same_found : List ℕ → ℕ → Option Found → Bool
same_found B i (Some f) = same_as B i f.method
same_found B i None = true

-- method i and the method of its name above its class
unfoldable pub same_above : List ℕ → ℕ → Bool
same_above B i = same_found B i (lookup_of B (up B (get_or B (row_of i + 1) 0)) (get_or B (row_of i + 2) 0))

-- the k methods from i on
unfoldable pub overrides_in : List ℕ → ℕ → ℕ → Bool
overrides_in B zero i = true
overrides_in B (suc k) i = same_above B i && overrides_in B k (i + 1)

abbrev pub overrides_of : List ℕ → Bool
overrides_of B = overrides_in B (get_or B method_count_at 0) 0
