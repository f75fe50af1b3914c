-- The checker computes the typing rules (specs/TypingRules): what it gives a type has that type by the rules (-sound), and what has a type
-- by the rules it gives that type (-complete). In this order: tags, fit, expressions, methods. Not here: its answer for a program (CheckRules).
-- Asked of the table is only that a parent's number is smaller, which holds of every table that is read (WellFormed, proofs/Readable).
use Prim.Native.Nat.{ℕ, zero, suc}
use mathlib.Core.Path.{◌≡◌, refl, sym, ap, ◌∙◌, subst}
use mathlib.Core.Bool.{Bool, true, false, ◌&&◌, ◌||◌, cond, false≢true}
use mathlib.Core.Logic.{◌⊎◌, inl, inr}
use mathlib.Core.List.{List, [], ◌∷◌, map}
use mathlib.Core.Option.{Option, some, none-ne-some}
use lib.Dec.{eqb, leb}
use lib.ListN.{get_elem?}
use borrow.Author.Tests.{eqb-true, leb-true, le-leb}
use Rattle.cofj.specs.Syntax.{Operation, Expr, this, res, param, field, call, new, literal, combine, choose, Exprs, done, also, Ty, ty, eq_ty, Class, Method, Table}
use Rattle.cofj.specs.Partial.{◌>>=◌, guard}
use Rattle.cofj.specs.Classes.{class_fits, fits, class_at, parent_or0, fields_of}
use Rattle.cofj.specs.Lookup.{found_in, lookup}
use Rattle.cofj.specs.Typing.{Env, closed_tag, all_closed, all_fit, narrow, number_type, field_type, call_type, new_type, combine_type, wider, choose_type, type_of, types_of, method_typed}
use Rattle.cofj.specs.TypingRules.{◌⁺, ◌⁺?, ◌⁻?, ◌⁻, AllClosed, closing, SubClass, same, above, Fits, AllFit, fit_none, fit_each, HasType, T-VAR-this, T-VAR-res, T-VAR-param, T-FIELD, T-INVK, T-NEW1, T-NEW2, T-NUMBER, T-COMBINE, T-CHOOSE-second, T-CHOOSE-first, HaveTypes, T-NONE, T-EACH, left_variables, right_variables, MethodTyped, T-MDEC}
use Rattle.cofj.proofs.Chain.{ParentsSmaller, fits_self}
use Rattle.cofj.proofs.Climb.{eq_ty_true, climb, fits-up}
use Rattle.cofj.proofs.CheckSays.{method_ok}
use Rattle.cofj.proofs.Partial.{and_true, true_and, opt_bind, guard-bind}

-- ---- tags
-- the operators at the foot of figure 7
pub closing-table : (c : ℕ) → (closing (c ⁺) ≡ c ⁺) × (closing (c ⁺?) ≡ c ⁺) × (closing (c ⁻?) ≡ c ⁻) × (closing (c ⁻) ≡ c ⁻)
closing-table c = (refl, refl, refl, refl)

pub narrow-table : (c : ℕ) → (narrow (c ⁺) ≡ c ⁺) × (narrow (c ⁺?) ≡ c ⁺) × (narrow (c ⁻?) ≡ c ⁺) × (narrow (c ⁻) ≡ c ⁻)
narrow-table c = (refl, refl, refl, refl)

closed_sound : (g : ℕ) → closed_tag g ≡ true → (g ≡ 0) ⊎ (g ≡ 3)
closed_sound g e = go (eqb g 0) refl e
  where
    go : (b : Bool) → eqb g 0 ≡ b → b || eqb g 3 ≡ true → (g ≡ 0) ⊎ (g ≡ 3)
    go true p q = inl (eqb-true g 0 p)
    go false p q = inr (eqb-true g 3 q)

closed_complete : (g : ℕ) → (g ≡ 0) ⊎ (g ≡ 3) → closed_tag g ≡ true
closed_complete g (inl e) = ap closed_tag e
closed_complete g (inr e) = ap closed_tag e

pub all_closed_sound : (us : List Ty) → all_closed us ≡ true → AllClosed us
all_closed_sound [] e = tt
all_closed_sound (u ∷ us) e = let p = and_true (closed_tag u.tag) (all_closed us) e in (closed_sound u.tag p.0, all_closed_sound us p.1)

pub all_closed_complete : (us : List Ty) → AllClosed us → all_closed us ≡ true
all_closed_complete [] h = refl
all_closed_complete (u ∷ us) h = true_and (closed_tag u.tag) (all_closed us) (closed_complete u.tag h.0) (all_closed_complete us h.1)

-- ---- fit
module _ (t : Table) (h : ParentsSmaller t.classes) where
  abbrev cs : List Class
  cs = t.classes

  pub class_sound : (c d : ℕ) → class_fits cs c d ≡ true → SubClass cs c d
  class_sound c d e = climb cs h d (λ x. SubClass cs x d) same (λ k x q s. above q (subst (λ (y : ℕ). SubClass cs y d) (ap parent_or0 q) s)) c e

  class_above : (c d : ℕ) (k : Class) → class_at cs c ≡ some k → class_fits cs k.parent d ≡ true → class_fits cs c d ≡ true
  class_above zero d k q e = absurd (none-ne-some k q)
  class_above (suc n) d k q e = fits-up cs h n d k q (ap (λ (o : Option Class). class_fits cs (parent_or0 o) d) q ∙ e)

  pub class_complete : {c d : ℕ} → SubClass cs c d → class_fits cs c d ≡ true
  class_complete (same {c = c}) = fits_self cs c c refl
  class_complete (above {c = c} {d = d} {k = k} q s) = class_above c d k q (class_complete s)

  pub fits_sound : (u w : Ty) → fits cs u w ≡ true → Fits cs u w
  fits_sound u w e =
      let p = and_true (class_fits cs u.cls w.cls) (leb u.tag w.tag) e in
      record { class = class_sound u.cls w.cls p.0; tag = leb-true u.tag w.tag p.1 }

  pub fits_complete : (u w : Ty) → Fits cs u w → fits cs u w ≡ true
  fits_complete u w f = true_and (class_fits cs u.cls w.cls) (leb u.tag w.tag) (class_complete f.class) (le-leb u.tag w.tag f.tag)

  pub all_fit_sound : (us ws : List Ty) → all_fit t us ws ≡ true → AllFit cs us ws
  all_fit_sound [] [] e = fit_none
  all_fit_sound [] (w ∷ ws) e = absurd (false≢true e)
  all_fit_sound (u ∷ us) [] e = absurd (false≢true e)
  all_fit_sound (u ∷ us) (w ∷ ws) e = let p = and_true (fits cs u w) (all_fit t us ws) e in fit_each (fits_sound u w p.0) (all_fit_sound us ws p.1)

  pub all_fit_complete : {us ws : List Ty} → AllFit cs us ws → all_fit t us ws ≡ true
  all_fit_complete fit_none = refl
  all_fit_complete (fit_each {u = u} {w = w} {us = us} {ws = ws} f fs) = true_and (fits cs u w) (all_fit t us ws) (fits_complete u w f) (all_fit_complete fs)

  -- ---- expressions
  plus : (w : Ty) → w.tag ≡ 0 → w ≡ w.cls ⁺
  plus w e i = ty w.cls (e i)

  module _ (in_main : Bool) (Γ : Env) where
    field_sound : (f : ℕ) (e : Expr) (w u : Ty) → HasType t in_main Γ e w → field_type t w f ≡ some u → HasType t in_main Γ (field f e) u
    unfolding field_type
    field_sound f e w u d q =
        let a = guard-bind (eqb w.tag 0) (λ _. get_elem? (fields_of cs w.cls) f) u q in
        T-FIELD (subst (HasType t in_main Γ e) (plus w (eqb-true w.tag 0 a.0)) d) a.1

    call_sound : (m : ℕ) (e : Expr) (es : Exprs) (w u : Ty) (us : List Ty) → HasType t in_main Γ e w → HaveTypes t in_main Γ es us → call_type t in_main w m us ≡ some u
        → HasType t in_main Γ (call m e es) u
    unfolding call_type
    call_sound m e es w u us d ds q =
        let a = guard-bind (eqb w.tag 0) _ u q in
        let b = opt_bind (lookup t w.cls m) _ u a.1 in
        let c = guard-bind (all_closed us && all_fit t us b.0.body.params) _ u b.2 in
        let p = and_true (all_closed us) (all_fit t us b.0.body.params) c.0 in
        let y : some (cond in_main b.0.body.first b.0.body.second) ≡ some u = c.1 in
        T-INVK (subst (HasType t in_main Γ e) (plus w (eqb-true w.tag 0 a.0)) d) ds b.1 (all_closed_sound us p.0) (all_fit_sound us b.0.body.params p.1) (let z : u ≡ cond in_main b.0.body.first b.0.body.second = cc in z)

    -- what `new_type` answers, when the test of its values gave b
    abbrev new_by : ℕ → List Ty → Bool → Option Ty
    new_by c us b = elim b [
      | true ↦ guard (all_fit t us (fields_of cs c)) >>= λ _. some (c ⁺)
      | false ↦ guard (all_fit t (map narrow us) (fields_of cs c)) >>= λ _. some (c ⁺?)
    ]

    new_sound : (c : ℕ) (es : Exprs) (u : Ty) (us : List Ty) → HaveTypes t in_main Γ es us → new_type t c us ≡ some u → HasType t in_main Γ (new c es) u
    unfolding new_type
    new_sound c es u us ds q = go (all_closed us) refl q
      where
        go : (b : Bool) → all_closed us ≡ b → new_by c us b ≡ some u → HasType t in_main Γ (new c es) u
        go true p z =
            let a = guard-bind (all_fit t us (fields_of cs c)) (λ _. some (c ⁺)) u z in
            let y : some (c ⁺) ≡ some u = a.1 in
            subst (HasType t in_main Γ (new c es)) (let x : c ⁺ ≡ u = cc in x) (T-NEW1 ds (all_closed_sound us p) (all_fit_sound us (fields_of cs c) a.0))
        go false p z =
            let a = guard-bind (all_fit t (map narrow us) (fields_of cs c)) (λ _. some (c ⁺?)) u z in
            let y : some (c ⁺?) ≡ some u = a.1 in
            subst (HasType t in_main Γ (new c es)) (let x : c ⁺? ≡ u = cc in x)
            (T-NEW2 ds (λ k. false≢true (sym p ∙ all_closed_complete us k)) (all_fit_sound (map narrow us) (fields_of cs c) a.0))

    -- what `wider` answers, when the test that the first fits the second gave b
    abbrev wider_by : Ty → Ty → Bool → Option Ty
    wider_by u v b = elim b [ true ↦ some v | false ↦ guard (fits cs v u) >>= λ _. some u ]

    combine_sound : (o : Operation) (a b : Expr) (x y u : Ty) → HasType t in_main Γ a x → HasType t in_main Γ b y → combine_type t x y ≡ some u → HasType t in_main Γ (combine o a b) u
    unfolding combine_type
    combine_sound o a b x y u d e q =
        let g = guard-bind (eq_ty x number_type && eq_ty y number_type) (λ _. some number_type) u q in
        let p = and_true (eq_ty x number_type) (eq_ty y number_type) g.0 in
        let z : some number_type ≡ some u = g.1 in
        subst (HasType t in_main Γ (combine o a b)) (let w : number_type ≡ u = cc in w)
        (T-COMBINE (subst (HasType t in_main Γ a) (eq_ty_true x number_type p.0) d) (subst (HasType t in_main Γ b) (eq_ty_true y number_type p.1) e))

    choose_sound : (c a b : Expr) (w x y u : Ty) → HasType t in_main Γ c w → HasType t in_main Γ a x → HasType t in_main Γ b y → choose_type t w x y ≡ some u
        → HasType t in_main Γ (choose c a b) u
    unfolding choose_type wider
    choose_sound c a b w x y u d e f q = go (fits cs x y) refl g.1
      where
        g : (eq_ty w number_type ≡ true) × (wider t x y ≡ some u)
        g = guard-bind (eq_ty w number_type) (λ _. wider t x y) u q

        asked : HasType t in_main Γ c number_type
        asked = subst (HasType t in_main Γ c) (eq_ty_true w number_type g.0) d

        go : (k : Bool) → fits cs x y ≡ k → wider_by x y k ≡ some u → HasType t in_main Γ (choose c a b) u
        go true p z = let v : some y ≡ some u = z in subst (HasType t in_main Γ (choose c a b)) (let i : y ≡ u = cc in i) (T-CHOOSE-second asked e f (fits_sound x y p))
        go false p z =
            let r = guard-bind (fits cs y x) (λ _. some x) u z in
            let v : some x ≡ some u = r.1 in
            subst (HasType t in_main Γ (choose c a b)) (let i : x ≡ u = cc in i)
            (T-CHOOSE-first asked e f (λ k. false≢true (sym p ∙ fits_complete x y k)) (fits_sound y x r.0))

    mutual
      unfolding type_of

      pub type_of_sound : (e : Expr) (u : Ty) → type_of t in_main Γ e ≡ some u → HasType t in_main Γ e u
      type_of_sound this u q = T-VAR-this q
      type_of_sound res u q = T-VAR-res q
      type_of_sound (param k) u q = T-VAR-param q
      type_of_sound (field f e) u q =
          let a = opt_bind (type_of t in_main Γ e) _ u q in
          field_sound f e a.0 u (type_of_sound e a.0 a.1) a.2
      type_of_sound (call m e es) u q =
          let a = opt_bind (type_of t in_main Γ e) _ u q in
          let b = opt_bind (types_of t in_main Γ es) _ u a.2 in
          call_sound m e es a.0 u b.0 (type_of_sound e a.0 a.1) (types_of_sound es b.0 b.1) b.2
      type_of_sound (new c es) u q =
          let a = opt_bind (types_of t in_main Γ es) _ u q in
          new_sound c es u a.0 (types_of_sound es a.0 a.1) a.2
      type_of_sound (literal n) u q = let y : some number_type ≡ some u = q in subst (HasType t in_main Γ (literal n)) (let x : number_type ≡ u = cc in x) T-NUMBER
      type_of_sound (combine o x y) u q =
          let a = opt_bind (type_of t in_main Γ x) _ u q in
          let b = opt_bind (type_of t in_main Γ y) _ u a.2 in
          combine_sound o x y a.0 b.0 u (type_of_sound x a.0 a.1) (type_of_sound y b.0 b.1) b.2
      type_of_sound (choose x y z) u q =
          let a = opt_bind (type_of t in_main Γ x) _ u q in
          let b = opt_bind (type_of t in_main Γ y) _ u a.2 in
          let c = opt_bind (type_of t in_main Γ z) _ u b.2 in
          choose_sound x y z a.0 b.0 c.0 u (type_of_sound x a.0 a.1) (type_of_sound y b.0 b.1) (type_of_sound z c.0 c.1) c.2

      pub types_of_sound : (es : Exprs) (us : List Ty) → types_of t in_main Γ es ≡ some us → HaveTypes t in_main Γ es us
      types_of_sound done us q = let y : some [] ≡ some us = q in subst (HaveTypes t in_main Γ done) (let x : [] ≡ us = cc in x) T-NONE
      types_of_sound (also e es) us q =
          let a = opt_bind (type_of t in_main Γ e) _ us q in
          let b = opt_bind (types_of t in_main Γ es) _ us a.2 in
          let y : some (a.0 ∷ b.0) ≡ some us = b.2 in
          subst (HaveTypes t in_main Γ (also e es)) (let x : a.0 ∷ b.0 ≡ us = cc in x) (T-EACH (type_of_sound e a.0 a.1) (types_of_sound es b.0 b.1))

    call_complete : (c m o : ℕ) (us : List Ty) (d : Method) (u : Ty) → lookup t c m ≡ some (found_in o d) → AllClosed us → AllFit cs us d.params → u ≡ cond in_main d.first d.second
        → call_type t in_main (c ⁺) m us ≡ some u
    unfolding call_type
    call_complete c m o us d u q k f z = rw (q, all_closed_complete us k, all_fit_complete f, z)

    new1_complete : (c : ℕ) (us : List Ty) → AllClosed us → AllFit cs us (fields_of cs c) → new_type t c us ≡ some (c ⁺)
    unfolding new_type
    new1_complete c us k f = rw (all_closed_complete us k, new_type, all_fit_complete f)

    new2_complete : (c : ℕ) (us : List Ty) → (AllClosed us → ⊥) → AllFit cs (map narrow us) (fields_of cs c) → new_type t c us ≡ some (c ⁺?)
    unfolding new_type
    new2_complete c us k f = go (all_closed us) refl
      where
        go : (b : Bool) → all_closed us ≡ b → new_by c us b ≡ some (c ⁺?)
        go true p = absurd (k (all_closed_sound us p))
        go false p = rw (all_fit_complete f)

    choose_second : (u v : Ty) → Fits cs u v → choose_type t number_type u v ≡ some v
    unfolding choose_type wider
    choose_second u v f = rw (fits_complete u v f, wider)

    choose_first : (u v : Ty) → (Fits cs u v → ⊥) → Fits cs v u → choose_type t number_type u v ≡ some u
    unfolding choose_type wider
    choose_first u v k f = go (fits cs u v) refl
      where
        go : (b : Bool) → fits cs u v ≡ b → wider_by u v b ≡ some u
        go true p = absurd (k (fits_sound u v p))
        go false p = rw (fits_complete v u f)

    pub type_of_complete : {e : Expr} {u : Ty} → HasType t in_main Γ e u → type_of t in_main Γ e ≡ some u
    unfolding type_of field_type combine_type
    type_of_complete p = elim p as (λ e u _. type_of t in_main Γ e ≡ some u) (λ es us _. types_of t in_main Γ es ≡ some us) [
      | T-VAR-this q ↦ q
      | T-VAR-res q ↦ q
      | T-VAR-param q ↦ q
      | T-FIELD (d → i) q ↦ rw i q
      | T-INVK {m = m} {c = c} {c' = o} {us = us} {d = d} {u = u} (p → i) (ps → is) q k f z ↦ rw (i, is) (call_complete c m o us d u q k f z)
      | T-NEW1 {c = c} {us = us} (ps → is) k f ↦ rw is (new1_complete c us k f)
      | T-NEW2 {c = c} {us = us} (ps → is) k f ↦ rw is (new2_complete c us k f)
      | T-NUMBER ↦ refl
      | T-COMBINE (p → i) (q → j) ↦ rw (i, j)
      | T-CHOOSE-second {u = u} {v = v} (p → i) (q → j) (r → k) f ↦ rw (i, j, k) (choose_second u v f)
      | T-CHOOSE-first {u = u} {v = v} (p → i) (q → j) (r → k) n f ↦ rw (i, j, k) (choose_first u v n f)
      | T-NONE ↦ refl
      | T-EACH (p → i) (ps → is) ↦ rw (i, is)
    ]

    pub types_of_complete : {es : Exprs} {us : List Ty} → HaveTypes t in_main Γ es us → types_of t in_main Γ es ≡ some us
    unfolding type_of
    types_of_complete T-NONE = refl
    types_of_complete (T-EACH p ps) = rw (type_of_complete p, types_of_complete ps)

    -- an expression has one type at most
    pub type_unique : {e : Expr} {u w : Ty} → HasType t in_main Γ e u → HasType t in_main Γ e w → u ≡ w
    type_unique {e} {u} {w} p q = let y : some u ≡ some w = sym (type_of_complete p) ∙ type_of_complete q in cc

  -- ---- methods
  pub method_sound : (d : Method) (x : Unit {0}) → method_typed t d ≡ some x → MethodTyped t d
  method_sound d x e =
      let m = method_ok t d x e in
      T-MDEC (type_of_sound false (left_variables d) d.left m.u m.left) (type_of_sound false (right_variables d m.u) d.right m.v m.right)
      (fits_sound (closing m.u) d.first m.first) (fits_sound m.v d.second m.second) (fits_sound d.first d.second m.both) (fits_sound m.u d.second m.early)

  pub method_complete : (d : Method) → MethodTyped t d → method_typed t d ≡ some tt
  unfolding method_typed
  method_complete d (T-MDEC {u = u} {v = v} l r a b c e) =
      rw (type_of_complete false (left_variables d) l, type_of_complete false (right_variables d u) r, fits_complete (closing u) d.first a, fits_complete v d.second b, fits_complete d.first d.second c, fits_complete u d.second e)
