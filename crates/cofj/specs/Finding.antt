-- What a host is answered that asks where a method is found (the wiring list): of a table that is read, for any class byte and name, the owner and the
-- method's number in file order, or nothing.
-- Not here: the search (Lookup); the same of any bytes (crate engine, Finding).
use Rattle.std.specs.Prelude.{ℕ, suc, true, false, ◌&&◌, List, [], ◌∷◌, eqb}
use Rattle.std.proofs.Math.Option.{Option, none, some}
use Rattle.cofj.specs.declared.Finding.{Finding}
use Rattle.cofj.specs.Syntax.{Method, Table}
use Rattle.cofj.specs.Lookup.{Found, method_of, lookup_to, lookup}

-- the place in the list of the first method with this owner and name
unfoldable pub place_of : List Method → ℕ → ℕ → ℕ
place_of [] c m = 0
place_of (d ∷ ds) c m = elim (eqb d.owner c && eqb d.name m) [ true ↦ 0 | false ↦ suc (place_of ds c m) ]

abbrev pub nothing_found : Finding
nothing_found = record { found = false; owner = 0; method = 0 }

abbrev pub found_at : ℕ → ℕ → Finding
found_at o k = record { found = true; owner = o; method = k }

abbrev pub finding_of : Table → ℕ → Option Found → Finding
finding_of t m none = nothing_found
finding_of t m (some f) = found_at f.owner (place_of t.methods f.owner m)

unfoldable pub find_call : Table → ℕ → ℕ → Finding
unfolding place_of lookup_to method_of
find_call t c m = finding_of t m (lookup t c m)
