-- Every type that the rules give has a class of the table, or is that of numbers.
use Rattle.std.proofs.Common.{ℕ, zero, suc, ◌≤◌, ◌≡◌, refl, subst, Bool, true, false, ◌&&◌, ◌||◌, cond, List, [], ◌∷◌, ◌++◌, map, eqb, leb, length, leb-true, le-leb}
use Rattle.std.proofs.Math.Option.{Option, some, none-ne-some}
use Rattle.std.proofs.Math.ListN.{get_elem?}
use Rattle.cofj.specs.Limits.{number_class}
use Rattle.cofj.specs.Partial.{◌>>=◌, guard}
use Rattle.cofj.specs.Syntax.{Expr, this, res, param, field, call, new, literal, combine, choose, Ty, ty, eq_ty, Method, Table}
use Rattle.cofj.specs.Classes.{fits, parent_of, class_at, own_or_none, fields_to, fields_of}
use Rattle.cofj.specs.Lookup.{lookup}
use Rattle.cofj.specs.Typing.{Env, all_closed, narrow, all_fit, number_type, field_type, call_type, new_type, combine_type, wider, choose_type, type_of, types_of}
use Rattle.cofj.specs.Tables.{known, all_known, expr_known, exprs_known}
use Rattle.cofj.specs.WellFormed.{WellFormed, MethodFormed}
use Rattle.cofj.proofs.Partial.{and_true, true_and, opt_bind, guard-bind}
use Rattle.cofj.proofs.Lookup.{lookup_found}

-- ---- lists of types
-- a class of the table
pub class_known : (n c : ℕ) → c ≤ n → leb c n || eqb c number_class ≡ true
class_known n c h = rw (le-leb c n h)

pub known_at : (n : ℕ) (us : List Ty) (j : ℕ) (u : Ty) → all_known n us ≡ true → get_elem? us j ≡ some u → known n u ≡ true
unfolding all_known
known_at n [] j u h e = absurd (none-ne-some u e)
known_at n (x ∷ us) zero u h e =
    let q : x ≡ u = cc in
    subst (λ (y : Ty). known n y ≡ true) q (and_true (known n x) (all_known n us) h).0
known_at n (x ∷ us) (suc j) u h e = known_at n us j u (and_true (known n x) (all_known n us) h).1 e

known-append : (n : ℕ) (us vs : List Ty) → all_known n us ≡ true → all_known n vs ≡ true → all_known n (us ++ vs) ≡ true
unfolding all_known
known-append n [] vs h k = k
known-append n (u ∷ us) vs h k =
    let p = and_true (known n u) (all_known n us) h in
    true_and (known n u) (all_known n (us ++ vs)) p.0 (known-append n us vs p.1 k)

-- ---- what a rule gives
pub just : {A : Type 0} (x y : A) → some x ≡ some y → x ≡ y
just x y e = cc

module _ (t : Table) (wf : WellFormed t) where
  abbrev n : ℕ
  n = length t.classes

  fields_known : (k c : ℕ) → all_known n (fields_to k t.classes c) ≡ true
  unfolding fields_to all_known
  fields_known zero c = refl
  fields_known (suc k) c = known-append n (fields_to k t.classes (parent_of t.classes c)) (own_or_none (class_at t.classes c)) (fields_known k (parent_of t.classes c)) (wf.own_known c)

  field_known : (u : Ty) (f : ℕ) (v : Ty) → field_type t u f ≡ some v → known n v ≡ true
  unfolding field_type
  field_known u f v e =
      let a = guard-bind (eqb u.tag 0) (λ _. get_elem? (fields_of t.classes u.cls) f) v e in
      known_at n (fields_of t.classes u.cls) f v (fields_known u.cls u.cls) a.1

  call_known : (in_main : Bool) (u : Ty) (m : ℕ) (us : List Ty) (v : Ty) → call_type t in_main u m us ≡ some v → known n v ≡ true
  unfolding call_type
  call_known in_main u m us v e =
      let a = guard-bind (eqb u.tag 0) _ v e in
      let b = opt_bind (lookup t u.cls m) _ v a.1 in
      let d = b.0.body in
      let c = guard-bind (all_closed us && all_fit t us d.params) (λ _. some (cond in_main d.first d.second)) v b.2 in
      let r = (lookup_found t wf (MethodFormed t) wf.methods u.cls m b.0 b.1).0 in
      subst (λ (w : Ty). known n w ≡ true) (just _ v c.1) (pick_known in_main d r)
    where
      pick_known : (b : Bool) (d : Method) → MethodFormed t d → known n (cond b d.first d.second) ≡ true
      pick_known true d r = r.first_known
      pick_known false d r = r.second_known

  new_known_lem : (c : ℕ) (us : List Ty) (v : Ty) → known n (ty c 0) ≡ true → new_type t c us ≡ some v → known n v ≡ true
  unfolding new_type
  new_known_lem c us v h e = go (all_closed us) e
    where
      go : (b : Bool) → ◌≡◌ {A = Option Ty} (elim b [
        | true ↦ guard (all_fit t us (fields_of t.classes c)) >>= λ _. some (ty c 0)
        | false ↦ guard (all_fit t (map narrow us) (fields_of t.classes c)) >>= λ _. some (ty c 1)
      ]) (some v) → known n v ≡ true
      go true z = subst (λ (w : Ty). known n w ≡ true) (just (ty c 0) v (guard-bind (all_fit t us (fields_of t.classes c)) (λ _. some (ty c 0)) v z).1) h
      go false z = subst (λ (w : Ty). known n w ≡ true) (just (ty c 1) v (guard-bind (all_fit t (map narrow us) (fields_of t.classes c)) (λ _. some (ty c 1)) v z).1) h

  number_known : known n number_type ≡ true
  number_known = go (leb number_class n)
    where
      go : (b : Bool) → b || true ≡ true
      go true = refl
      go false = refl

  combine_known : (u v w : Ty) → combine_type t u v ≡ some w → known n w ≡ true
  unfolding combine_type
  combine_known u v w e = subst (λ (x : Ty). known n x ≡ true) (just number_type w (guard-bind (eq_ty u number_type && eq_ty v number_type) (λ _. some number_type) w e).1) number_known

  -- the wider of two types is one of them
  choose_known : (c u v w : Ty) → known n u ≡ true → known n v ≡ true → choose_type t c u v ≡ some w → known n w ≡ true
  unfolding choose_type wider
  choose_known c u v w h k e = go (fits t.classes u v) (guard-bind (eq_ty c number_type) (λ _. wider t u v) w e).1
    where
      go : (b : Bool) → ◌≡◌ {A = Option Ty} (elim b [ true ↦ some v | false ↦ guard (fits t.classes v u) >>= λ _. some u ]) (some w) → known n w ≡ true
      go true z = subst (λ (x : Ty). known n x ≡ true) (just v w z) k
      go false z = subst (λ (x : Ty). known n x ≡ true) (just u w (guard-bind (fits t.classes v u) (λ _. some u) w z).1) h

-- ---- the variables have known classes
pub record KnownEnv (n : ℕ) (g : Env) : Type 0 where
  pub this : (u : Ty) → g.this ≡ some u → known n u ≡ true
  pub res : (u : Ty) → g.res ≡ some u → known n u ≡ true
  pub params : all_known n g.params ≡ true

pub typed-known : (t : Table) → WellFormed t → (in_main : Bool) (g : Env) → KnownEnv (length t.classes) g → (e : Expr) (u : Ty)
    → expr_known (length t.classes) e ≡ true → type_of t in_main g e ≡ some u → known (length t.classes) u ≡ true
unfolding type_of expr_known
typed-known t wf in_main g kg this u h e = kg.this u e
typed-known t wf in_main g kg res u h e = kg.res u e
typed-known t wf in_main g kg (param k) u h e = known_at (length t.classes) g.params k u kg.params e
typed-known t wf in_main g kg (field f x) u h e =
    let a = opt_bind (type_of t in_main g x) _ u e in
    field_known t wf a.0 f u a.2
typed-known t wf in_main g kg (call m x xs) u h e =
    let a = opt_bind (type_of t in_main g x) _ u e in
    let b = opt_bind (types_of t in_main g xs) _ u a.2 in
    call_known t wf in_main a.0 m b.0 u b.2
typed-known t wf in_main g kg (new c xs) u h e =
    let a = opt_bind (types_of t in_main g xs) _ u e in
    new_known_lem t wf c a.0 u (class_known (length t.classes) c (leb-true c (length t.classes) (and_true (leb c (length t.classes)) (exprs_known (length t.classes) xs) h).0)) a.2
typed-known t wf in_main g kg (literal k) u h e = subst (λ (x : Ty). known (length t.classes) x ≡ true) (just number_type u e) (number_known t wf)
typed-known t wf in_main g kg (combine o x y) u h e =
    let a = opt_bind (type_of t in_main g x) _ u e in
    let b = opt_bind (type_of t in_main g y) _ u a.2 in
    combine_known t wf a.0 b.0 u b.2
typed-known t wf in_main g kg (choose x y z) u h e =
    let n = length t.classes in
    let p = and_true (expr_known n x && expr_known n y) (expr_known n z) h in
    let a = opt_bind (type_of t in_main g x) _ u e in
    let b = opt_bind (type_of t in_main g y) _ u a.2 in
    let c = opt_bind (type_of t in_main g z) _ u b.2 in
    choose_known t wf a.0 b.0 c.0 u (typed-known t wf in_main g kg y b.0 (and_true (expr_known n x) (expr_known n y) p.0).1 b.1) (typed-known t wf in_main g kg z c.0 p.1 c.1) c.2
