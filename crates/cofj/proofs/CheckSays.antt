-- What `check` says where it accepts: the types and fits that it found for each method and for main. Not here: the rules (TypingRules).
use Prim.Native.Nat.{ℕ}
use native.Mathlib.Omega.{arith}
use mathlib.Core.Path.{◌≡◌, refl}
use mathlib.Core.Bool.{true, false}
use mathlib.Core.List.{List, [], ◌∷◌}
use mathlib.Core.Option.{Option, none, some}
use Rattle.cofj.specs.Syntax.{Ty, ty, Method, Table}
use Rattle.cofj.specs.Classes.{fits}
use Rattle.cofj.specs.Typing.{Env, close_tag, type_of, method_typed, methods_typed, main_type, Checked, refused, accepted, main_or7, check}
use Rattle.cofj.specs.WellFormed.{AllMethods}
use Rattle.cofj.proofs.Partial.{and_true, opt_bind, guard_true}

-- ---- what the checker's `some` says
-- the variables of a method's left side, and of its right side when the left has class c
abbrev pub left_env : Method → Env
left_env d = record { this = some (ty d.owner 0); res = none; params = d.params }

abbrev pub right_env : Method → ℕ → Env
right_env d c = record { this = some (ty d.owner 0); res = some (ty c 2); params = d.params }

unfoldable pub left_type : Table → Method → Option Ty
left_type t d = type_of t false (left_env d) d.left

pub record MethodOk (t : Table) (d : Method) : Type 0 where
  pub u : Ty
  pub v : Ty
  pub left : type_of t false (left_env d) d.left ≡ some u
  pub right : type_of t false (right_env d u.cls) d.right ≡ some v
  pub first : fits t.classes (ty u.cls (close_tag u.tag)) d.first ≡ true
  pub second : fits t.classes v d.second ≡ true
  pub both : fits t.classes d.first d.second ≡ true
  pub early : fits t.classes u d.second ≡ true

module _ (t : Table) where
  pub method_ok : (d : Method) (x : Unit {0}) → method_typed t d ≡ some x → MethodOk t d
  unfolding method_typed
  method_ok d x e =
      let a = opt_bind (type_of t false (left_env d) d.left) _ x e in
      let b = opt_bind (type_of t false (right_env d a.0.cls) d.right) _ x a.2 in
      let g = guard_true _ x b.2 in
      let p = and_true _ (fits t.classes a.0 d.second) g in
      let q = and_true _ (fits t.classes d.first d.second) p.0 in
      let r = and_true (fits t.classes (ty a.0.cls (close_tag a.0.tag)) d.first) (fits t.classes b.0 d.second) q.0 in
      record { u = a.0; v = b.0; left = a.1; right = b.1; first = r.0; second = r.1; both = q.1; early = p.1 }

  methods_ok : (ds : List Method) (x : Unit {0}) → methods_typed t ds ≡ some x → AllMethods (MethodOk t) ds
  methods_ok [] x e = tt
  methods_ok (d ∷ ds) x e =
      let a = opt_bind (method_typed t d) _ x e in
      (method_ok d a.0 a.1, methods_ok ds x a.2)

  pub check_says : (u : Ty) → check t ≡ accepted u → AllMethods (MethodOk t) t.methods × (main_type t ≡ some u)
  unfolding check
  check_says u e = go (methods_typed t t.methods) refl e
    where
      main : (o : Option Ty) → main_or7 o ≡ accepted u → o ≡ some u
      main none z = let y : refused 7 ≡ accepted u = z in cc
      main (some w) z = let y : accepted w ≡ accepted u = z in cc

      go : (o : Option (Unit {0})) → methods_typed t t.methods ≡ o → ◌≡◌ {A = Checked} (elim o [ none ↦ refused 6 | some w ↦ main_or7 (main_type t) ]) (accepted u)
          → AllMethods (MethodOk t) t.methods × (main_type t ≡ some u)
      go none q z = let y : refused 6 ≡ accepted u = z in absurd (let k : ◌≡◌ {A = ℕ} 0 1 = cc in omega arith)
      go (some x) q z = (methods_ok t.methods x q, main (main_type t) z)
