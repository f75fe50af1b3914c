-- Methods and main in a table's bytes B, at the code's grain. Not here: that this is the language's check (proofs/Programs).
use Rattle.std.specs.Prelude.{Bool, true, false, List, ℕ, zero, suc, ◌+◌, get_or, Some, None, Ok, Err}
use Rattle.std.specs.declared.option.Option.{Option}
use Rattle.std.specs.declared.result.Result.{Result}
use Rattle.cofj.specs.Limits.{nesting_limit}
use Rattle.cofj.specs.declared.Refusal.{Refusal}
use Rattle.cofj.specs.declared.Refusal.TheVariants.{UntypedMethod, UntypedMain}
use Rattle.classes.specs.declared.chain.FieldType.{FieldType}
use Rattle.classes.specs.Machine.{pick, type_at, row_of, left_of, right_of, main_place}
use Rattle.checker.specs.declared.scope.Typed.{Typed}
use Rattle.checker.specs.declared.scope.Scope.{Scope}
use Rattle.checker.specs.Types.{close_type, fits_type}
use Rattle.checker.specs.Machine.{type_in}

-- the scope of a body of method i, and of main
abbrev pub body : ℕ → Option ℕ → Scope
body i r = record { main = false; method = i; res = r }

abbrev pub in_main : Scope
in_main = record { main = true; method = 0; res = None }

-- a type fits the first result type of method i, and the second
unfoldable pub fits_first : List ℕ → ℕ → FieldType → Bool
fits_first B i u = fits_type B u (type_at B (row_of i + 3))

unfoldable pub fits_second : List ℕ → ℕ → FieldType → Bool
fits_second B i u = fits_type B u (type_at B (row_of i + 5))

-- the four conditions, of the left type u and the right one v
unfoldable pub results_fit : List ℕ → ℕ → FieldType → FieldType → Bool
results_fit B i u v =
    pick (fits_first B i (close_type u)) (pick (fits_second B i v) (pick (fits_second B i (type_at B (row_of i + 3))) (fits_second B i u) false) false) false

abbrev pub holds : Option Typed → (FieldType → Bool) → Bool
holds (Some o) go = go o.ty
holds None go = false

unfoldable pub right_typed : List ℕ → ℕ → FieldType → Bool
right_typed B i u = holds (type_in B nesting_limit (body i (Some u.class)) (right_of B i)) (λ v. results_fit B i u v)

unfoldable pub method_in : List ℕ → ℕ → Bool
method_in B i = holds (type_in B nesting_limit (body i None) (left_of B i)) (λ u. right_typed B i u)

-- n methods from number i on
unfoldable pub methods_from : List ℕ → ℕ → ℕ → Bool
methods_from B zero i = true
methods_from B (suc n) i = pick (method_in B i) (methods_from B n (suc i)) false

-- byte 12 has the number of methods
abbrev pub methods_in : List ℕ → Bool
methods_in B = methods_from B (get_or B 12 0) 0

abbrev pub main_of : Option Typed → Result FieldType Refusal
main_of (Some o) = Ok o.ty
main_of None = Err UntypedMain

unfoldable pub check_of : List ℕ → Result FieldType Refusal
check_of B = pick (methods_in B) (main_of (type_in B nesting_limit in_main (main_place B))) (Err UntypedMethod)
