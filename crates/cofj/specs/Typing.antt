-- The typing rules of figure 7 of 002, as document 01 changes them.
use Rattle.std.specs.Prelude.{ℕ, Bool, true, false, ◌&&◌, ◌||◌, cond, List, [], ◌∷◌, map, eqb}
use Rattle.std.proofs.Math.Option.{Option, none, some}
use Rattle.std.proofs.Math.ListN.{get_elem?}
use Rattle.cofj.specs.Limits.{number_class}
use Rattle.cofj.specs.Syntax.{Expr, this, res, param, field, call, new, literal, combine, choose, Exprs, done, also, Ty, ty, eq_ty, Method, Table}
use Rattle.cofj.specs.Partial.{◌>>=◌, guard, as_list}
use Rattle.cofj.specs.Classes.{fits, fields_of}
use Rattle.cofj.specs.Lookup.{lookup}

-- the variables of a body: this, res (right side only), the parameters
pub record Env : Type 0 where
  pub this : Option Ty
  pub res : Option Ty
  pub params : List Ty

-- tags 0 and 3 are closed
abbrev pub closed_tag : ℕ → Bool
closed_tag g = eqb g 0 || eqb g 3

abbrev pub all_closed : List Ty → Bool
all_closed [] = true
all_closed (u ∷ us) = closed_tag u.tag && all_closed us

-- pointwise fit of two lists of one length
module _ (t : Table) where
  abbrev pub all_fit : List Ty → List Ty → Bool
  all_fit [] [] = true
  all_fit [] (v ∷ vs) = false
  all_fit (u ∷ us) [] = false
  all_fit (u ∷ us) (v ∷ vs) = fits t.classes u v && all_fit us vs

-- an open tag read as 0, for a value of `new`
abbrev pub narrow : Ty → Ty
narrow u = ty u.cls (cond (closed_tag u.tag) u.tag 0)

-- 1 read as 0 and 2 as 3: the type of the closed result
abbrev pub close_tag : ℕ → ℕ
close_tag g = cond (eqb g 1) 0 (cond (eqb g 2) 3 g)

-- the type of a number, which an operand must have: tag 0 and no other
abbrev pub number_type : Ty
number_type = ty number_class 0

module _ (t : Table) where
  unfoldable pub field_type : Ty → ℕ → Option Ty
  field_type u f = guard (eqb u.tag 0) >>= λ _. get_elem? (fields_of t.classes u.cls) f

  unfoldable pub call_type : Bool → Ty → ℕ → List Ty → Option Ty
  call_type in_main u m us =
      guard (eqb u.tag 0) >>= λ _.
      lookup t u.cls m >>= λ f.
      guard (all_closed us && all_fit t us f.body.params) >>= λ _.
      some (cond in_main f.body.first f.body.second)

  unfoldable pub new_type : ℕ → List Ty → Option Ty
  new_type c us =
      elim (all_closed us) [
        | true ↦ guard (all_fit t us (fields_of t.classes c)) >>= λ _. some (ty c 0)
        | false ↦ guard (all_fit t (map narrow us) (fields_of t.classes c)) >>= λ _. some (ty c 1)
      ]

  unfoldable pub combine_type : Ty → Ty → Option Ty
  combine_type u v = guard (eq_ty u number_type && eq_ty v number_type) >>= λ _. some number_type

  -- the wider of two types, where one fits the other
  unfoldable pub wider : Ty → Ty → Option Ty
  wider u v = elim (fits t.classes u v) [ true ↦ some v | false ↦ guard (fits t.classes v u) >>= λ _. some u ]

  unfoldable pub choose_type : Ty → Ty → Ty → Option Ty
  unfolding wider
  choose_type c u v = guard (eq_ty c number_type) >>= λ _. wider u v

  -- `in_main` says that the expression is main: a call has its method's first result type there, and the second in a body
  unfoldable mutual
    pub type_of : Bool → Env → Expr → Option Ty
    type_of in_main g this = g.this
    type_of in_main g res = g.res
    type_of in_main g (param k) = get_elem? g.params k
    type_of in_main g (field f e) = type_of in_main g e >>= λ u. field_type u f
    type_of in_main g (call m e es) = type_of in_main g e >>= λ u. types_of in_main g es >>= λ us. call_type in_main u m us
    type_of in_main g (new c es) = types_of in_main g es >>= λ us. new_type c us
    type_of in_main g (literal n) = some number_type
    type_of in_main g (combine o a b) = type_of in_main g a >>= λ u. type_of in_main g b >>= λ v. combine_type u v
    type_of in_main g (choose c a b) = type_of in_main g c >>= λ w. type_of in_main g a >>= λ u. type_of in_main g b >>= λ v. choose_type w u v

    pub types_of : Bool → Env → Exprs → Option (List Ty)
    types_of in_main g done = some []
    types_of in_main g (also e es) = type_of in_main g e >>= λ u. types_of in_main g es >>= λ us. some (u ∷ us)

  unfoldable pub method_typed : Method → Option (Unit {0})
  method_typed d =
      type_of false (record { this = some (ty d.owner 0); res = none; params = d.params }) d.left >>= λ u.
      type_of false (record { this = some (ty d.owner 0); res = some (ty u.cls 2); params = d.params }) d.right >>= λ v.
      guard (fits t.classes (ty u.cls (close_tag u.tag)) d.first
      && fits t.classes v d.second
      && fits t.classes d.first d.second
      && fits t.classes u d.second)

  abbrev pub methods_typed : List Method → Option (Unit {0})
  methods_typed [] = some tt
  methods_typed (d ∷ ds) = method_typed d >>= λ _. methods_typed ds

  abbrev pub main_type : Option Ty
  main_type = type_of true (record { this = none; res = none; params = as_list t.input }) t.main

-- refused with 6 or 7, or accepted with main's type
pub data Checked : Type 0 where
  refused : ℕ → Checked
  accepted : Ty → Checked

abbrev pub main_or7 : Option Ty → Checked
main_or7 none = refused 7
main_or7 (some u) = accepted u

unfoldable pub check : Table → Checked
check t = elim (methods_typed t t.methods) [ none ↦ refused 6 | some u ↦ main_or7 (main_type t) ]
