-- What a type that the checker gives says of the parts of an expression: one inversion for each kind of expression that has parts.
-- Not here: what their values are (Sound).
use Prim.Native.Nat.{ℕ}
use native.Mathlib.Omega.{arith}
use mathlib.Core.Path.{◌≡◌, refl, sym, ◌∙◌, subst}
use mathlib.Core.Bool.{Bool, true, false, ◌&&◌, cond}
use mathlib.Core.List.{List, map}
use mathlib.Core.Logic.{◌⊎◌, inl, inr}
use mathlib.Core.Option.{Option, some}
use lib.Dec.{eqb, leb}
use lib.ListN.{length, length-map}
use borrow.Author.Tests.{eqb-true, le-leb}
use Rattle.cofj.specs.Syntax.{Ty, ty, eq_ty, Table}
use Rattle.cofj.specs.Partial.{◌>>=◌, guard}
use Rattle.cofj.specs.Classes.{class_fits, fits, fields_of}
use Rattle.cofj.specs.Lookup.{Found, lookup}
use Rattle.cofj.specs.Typing.{all_closed, all_fit, narrow, call_type, new_type, number_type, combine_type, wider, choose_type}
use Rattle.cofj.specs.WellFormed.{WellFormed}
use Rattle.cofj.proofs.Chain.{fits_self}
use Rattle.cofj.proofs.Keeps.{fit_length}
use Rattle.cofj.proofs.Partial.{and_true, true_and, opt_bind, guard-bind}

module _ (t : Table) where
  -- ---- calls
  pub record CallOk (in_main : Bool) (u : Ty) (m : ℕ) (us : List Ty) (w : Ty) : Type 0 where
    pub zero : u.tag ≡ 0
    pub f : Found
    pub has : lookup t u.cls m ≡ some f
    pub fit : all_fit t us f.body.params ≡ true
    pub gives : cond in_main f.body.first f.body.second ≡ w

  pub call_ok : (in_main : Bool) (u : Ty) (m : ℕ) (us : List Ty) (w : Ty) → call_type t in_main u m us ≡ some w → CallOk in_main u m us w
  unfolding call_type
  call_ok in_main u m us w e =
      let a = guard-bind (eqb u.tag 0) _ w e in
      let b = opt_bind (lookup t u.cls m) _ w a.1 in
      let c = guard-bind (all_closed us && all_fit t us b.0.body.params) _ w b.2 in
      let y : some (cond in_main b.0.body.first b.0.body.second) ≡ some w = c.1 in
      record { zero = eqb-true u.tag 0 a.0; f = b.0; has = b.1; fit = (and_true (all_closed us) (all_fit t us b.0.body.params) c.0).1; gives = cc }

  -- ---- new objects: the values fit the fields, as they are or with open tags read as plus
  pub new_ok : (c : ℕ) (us : List Ty) (w : Ty) → new_type t c us ≡ some w
      → ((all_fit t us (fields_of t.classes c) ≡ true) × (ty c 0 ≡ w)) ⊎ ((all_fit t (map narrow us) (fields_of t.classes c) ≡ true) × (ty c 1 ≡ w))
  unfolding new_type
  new_ok c us w e = go (all_closed us) e
    where
      go : (b : Bool) → ◌≡◌ {A = Option Ty} (elim b [
        | true ↦ guard (all_fit t us (fields_of t.classes c)) >>= λ _. some (ty c 0)
        | false ↦ guard (all_fit t (map narrow us) (fields_of t.classes c)) >>= λ _. some (ty c 1)
      ]) (some w) → ((all_fit t us (fields_of t.classes c) ≡ true) × (ty c 0 ≡ w)) ⊎ ((all_fit t (map narrow us) (fields_of t.classes c) ≡ true) × (ty c 1 ≡ w))
      go true z =
          let a = guard-bind (all_fit t us (fields_of t.classes c)) (λ _. some (ty c 0)) w z in
          let y : some (ty c 0) ≡ some w = a.1 in
          inl (a.0, cc)
      go false z =
          let a = guard-bind (all_fit t (map narrow us) (fields_of t.classes c)) (λ _. some (ty c 1)) w z in
          let y : some (ty c 1) ≡ some w = a.1 in
          inr (a.0, cc)

  -- the counts agree
  pub new_count : WellFormed t → (c : ℕ) (us : List Ty) (w : Ty) → new_type t c us ≡ some w → length (fields_of t.classes c) ≡ length us
  new_count wf c us w e = go (new_ok c us w e)
    where
      go : ((all_fit t us (fields_of t.classes c) ≡ true) × (ty c 0 ≡ w)) ⊎ ((all_fit t (map narrow us) (fields_of t.classes c) ≡ true) × (ty c 1 ≡ w))
          → length (fields_of t.classes c) ≡ length us
      go (inl a) = sym (fit_length t wf us (fields_of t.classes c) a.0)
      go (inr a) = sym (fit_length t wf (map narrow us) (fields_of t.classes c) a.0) ∙ length-map us narrow

  -- ---- sums and differences, choices
  pub combine_ok : (u v w : Ty) → combine_type t u v ≡ some w → (eq_ty u number_type ≡ true) × (eq_ty v number_type ≡ true) × (number_type ≡ w)
  unfolding combine_type
  combine_ok u v w e =
      let a = guard-bind (eq_ty u number_type && eq_ty v number_type) (λ _. some number_type) w e in
      let b = and_true (eq_ty u number_type) (eq_ty v number_type) a.0 in
      let y : some number_type ≡ some w = a.1 in
      (b.0, b.1, cc)

  pub choose_ok : (c u v w : Ty) → choose_type t c u v ≡ some w → (eq_ty c number_type ≡ true) × (wider t u v ≡ some w)
  unfolding choose_type
  choose_ok c u v w e = guard-bind (eq_ty c number_type) (λ _. wider t u v) w e

  -- both branches fit the wider type
  pub wider-fits : (u v w : Ty) → wider t u v ≡ some w → (fits t.classes u w ≡ true) × (fits t.classes v w ≡ true)
  unfolding wider
  wider-fits u v w e = go (fits t.classes u v) refl e
    where
      self : (x : Ty) → fits t.classes x x ≡ true
      self x = true_and (class_fits t.classes x.cls x.cls) (leb x.tag x.tag) (fits_self t.classes x.cls x.cls refl) (le-leb x.tag x.tag (omega arith))

      go : (b : Bool) → fits t.classes u v ≡ b → ◌≡◌ {A = Option Ty} (elim b [ true ↦ some v | false ↦ guard (fits t.classes v u) >>= λ _. some u ]) (some w)
          → (fits t.classes u w ≡ true) × (fits t.classes v w ≡ true)
      go true q z = let y : v ≡ w = cc in (subst (λ (x : Ty). fits t.classes u x ≡ true) y q, subst (λ (x : Ty). fits t.classes v x ≡ true) y (self v))
      go false q z =
          let a = guard-bind (fits t.classes v u) (λ _. some u) w z in
          let y : some u ≡ some w = a.1 in
          let x : u ≡ w = cc in
          (subst (λ (k : Ty). fits t.classes u k ≡ true) x (self u), subst (λ (k : Ty). fits t.classes v k ≡ true) x a.0)

  -- the wider type is one of the two
  pub wider_one : (P : Ty → Type 0) (u v w : Ty) → P u → P v → wider t u v ≡ some w → P w
  unfolding wider
  wider_one P u v w p q e = go (fits t.classes u v) e
    where
      go : (b : Bool) → ◌≡◌ {A = Option Ty} (elim b [ true ↦ some v | false ↦ guard (fits t.classes v u) >>= λ _. some u ]) (some w) → P w
      go true z = subst P (let y : v ≡ w = cc in y) q
      go false z =
          let a = guard-bind (fits t.classes v u) (λ _. some u) w z in
          let y : some u ≡ some w = a.1 in
          subst P (let x : u ≡ w = cc in x) p
