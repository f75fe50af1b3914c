-- The list walk on the bytes of a table: what it gives of the types of its expressions. Not here: calls and objects (Expressions).
use Rattle.std.proofs.Common.{ℕ, suc, ◌+◌, arith, ◌≡◌, refl, ap, ◌∙◌, Bool, true, false, ◌&&◌, cond, List, [], ◌∷◌, ◌++◌, map, length, length-append, Some}
use Rattle.std.proofs.Math.Bool.{false≢true}
use Rattle.std.proofs.Math.Option.{Option, none, some}
use Rattle.std.specs.declared.option.Option.{Option as RustOption}
use Rattle.std.proofs.Math.ListN.{get_elem?}
use Rattle.cofj.specs.Partial.{◌>>=◌}
use Rattle.cofj.specs.Syntax.{Expr, Exprs, done, also, count, Ty, ty, Table}
use Rattle.cofj.specs.Classes.{fits}
use Rattle.cofj.specs.Typing.{Env, closed_tag, all_closed, narrow, all_fit, type_of, types_of}
use Rattle.cofj.specs.Tables.{known, expr_known, exprs_known}
use Rattle.cofj.specs.Writing.{code_of, codes_of}
use Rattle.cofj.specs.Nesting.{Each}
use Rattle.cofj.specs.WellFormed.{WellFormed}
use Rattle.cofj.proofs.Partial.{and_true, opt_bind}
use Rattle.classes.specs.Machine.{pick}
use Rattle.classes.specs.Layout.{layout, Stands, bytes_of, found_type}
use Rattle.classes.proofs.Zones.{stands_front, stands_after}
use Rattle.checker.specs.Items.{Items}
use Rattle.checker.specs.declared.scope.Typed.{Typed}
use Rattle.checker.specs.Listed.{Listed}
use Rattle.checker.specs.Listed as list
use Rattle.checker.specs.Types.{wanted_of, fits_found, narrow_type, item_fits}
use Rattle.checker.specs.Machine.{Walk, listed, list_by}
use Rattle.checker.specs.Answers.{typed_at}
use Rattle.checker.proofs.Known.{KnownEnv, typed-known}
use Rattle.checker.proofs.OnBytes.{fits_on}

-- what a list walk gives of the types of its expressions, against the types vs
abbrev pub listed_at : Table → Option (List Ty) → List Ty → Bool → ℕ → Listed
listed_at t none vs closed end = list.No
listed_at t (some us) vs closed end = pick (all_fit t (map narrow us) vs) (list.Past (closed && all_closed us) end) list.No

-- `one` finds the types of the expressions of P in the bytes
pub record Finds (t : Table) (in_main : Bool) (g : Env) (P : Expr → Type 0) (one : Walk) : Type 0 where
  pub types : (e : Expr) (at : ℕ) → P e → expr_known (length t.classes) e ≡ true → Stands (layout t) at (code_of e)
      → one at ≡ typed_at (type_of t in_main g e) (at + length (code_of e))

-- ---- lists of types
pub fit_length : (t : Table) (us vs : List Ty) → all_fit t us vs ≡ true → length us ≡ length vs
fit_length t [] [] e = refl
fit_length t [] (v ∷ vs) e = absurd (false≢true e)
fit_length t (u ∷ us) [] e = absurd (false≢true e)
fit_length t (u ∷ us) (v ∷ vs) e = ap suc (fit_length t us vs (and_true (fits t.classes u v) (all_fit t us vs) e).1)

pub unfit : (t : Table) (us vs : List Ty) → (length us ≡ length vs → ⊥) → all_fit t us vs ≡ false
unfit t us vs h = go (all_fit t us vs) refl
  where
    go : (b : Bool) → all_fit t us vs ≡ b → b ≡ false
    go true q = absurd (h (fit_length t us vs q))
    go false q = refl

pub length-narrow : (us : List Ty) → length (map narrow us) ≡ length us
length-narrow [] = refl
length-narrow (u ∷ us) = ap suc (length-narrow us)

-- closed tags stay as they are
pub narrow_same : (us : List Ty) → all_closed us ≡ true → map narrow us ≡ us
narrow_same [] e = refl
narrow_same (u ∷ us) e =
    let p = and_true (closed_tag u.tag) (all_closed us) e in
    λ i. ty u.cls (cond (p.0 i) u.tag 0) ∷ narrow_same us p.1 i

pub types-length : (t : Table) (in_main : Bool) (g : Env) (es : Exprs) (us : List Ty) → types_of t in_main g es ≡ some us → length us ≡ count es
unfolding types_of
types-length t in_main g done us e = ap length (let q : us ≡ [] = cc in q)
types-length t in_main g (also x xs) us e =
    let a = opt_bind (type_of t in_main g x) _ us e in
    let b = opt_bind (types_of t in_main g xs) _ us a.2 in
    let y : some (a.0 ∷ b.0) ≡ some us = b.2 in
    ap length (let q : us ≡ a.0 ∷ b.0 = cc in q) ∙ ap suc (types-length t in_main g xs b.0 b.1)

-- ---- one item in front of the others
regroup : (a b c : Bool) → pick b a false && c ≡ a && (b && c)
regroup a true c = refl
regroup true false c = refl
regroup false false c = refl

module _ (t : Table) (wf : WellFormed t) (items : Items) (k : ℕ) (v : Ty) (vs : List Ty) (closed : Bool) (end : ℕ) (rest : Bool → ℕ → Listed)
    (w : wanted_of (layout t) items k ≡ Some (bytes_of v)) where
  fits_item : (u : Ty) → known (length t.classes) u ≡ true → item_fits (layout t) items k (bytes_of u) ≡ fits t.classes (narrow u) v
  unfolding item_fits
  fits_item u h = ap (fits_found (layout t) (narrow_type (bytes_of u))) w ∙ fits_on t wf (narrow u) v h

  put_front : (u : Ty) (f : Bool) → f ≡ fits t.classes (narrow u) v → (os : Option (List Ty))
      → pick f (listed_at t os vs (pick (closed_tag u.tag) closed false) end) list.No ≡ listed_at t (os >>= λ us. some (u ∷ us)) (v ∷ vs) closed end
  put_front u true e none = refl
  put_front u false e none = refl
  put_front u true e (some us) = rw (← e, regroup closed (closed_tag u.tag) (all_closed us))
  put_front u false e (some us) = rw (← e)

  front_on : (o : Option Ty) (os : Option (List Ty)) (next : ℕ) → ((u : Ty) → o ≡ some u → known (length t.classes) u ≡ true)
      → ((b : Bool) → rest b next ≡ listed_at t os vs b end)
      → listed (typed_at o next) (λ d to. pick (item_fits (layout t) items k d) (rest (pick (closed_tag d.tag) closed false) to) list.No)
      ≡ listed_at t (o >>= λ u. os >>= λ us. some (u ∷ us)) (v ∷ vs) closed end
  front_on none os next kn r = refl
  front_on (some u) os next kn r =
      ap (λ (x : Listed). pick (item_fits (layout t) items k (bytes_of u)) x list.No) (r (pick (closed_tag u.tag) closed false))
      ∙ put_front u (item_fits (layout t) items k (bytes_of u)) (fits_item u (kn u refl)) os

-- ---- the walk: from item k on the items are vs
module _ (t : Table) (wf : WellFormed t) (in_main : Bool) (g : Env) (kg : KnownEnv (length t.classes) g) (P : Expr → Type 0) (one : Walk) (ih : Finds t in_main g P one) (items : Items) where
  pub list_on : (es : Exprs) (vs : List Ty) (k at : ℕ) (closed : Bool) → ((j : ℕ) → wanted_of (layout t) items (k + j) ≡ found_type (get_elem? vs j))
      → count es ≡ length vs → Each P es → exprs_known (length t.classes) es ≡ true → Stands (layout t) at (codes_of es)
      → list_by (layout t) one items k (count es) closed at ≡ listed_at t (types_of t in_main g es) vs closed (at + length (codes_of es))
  unfolding list_by types_of codes_of exprs_known
  list_on done [] k at closed w q p kn st = λ i. list.Past (all closed i) (here i)
    where
      all : (b : Bool) → b ≡ b && true
      all true = refl
      all false = refl

      here : at ≡ at + 0
      here = omega arith
  list_on done (v ∷ vs) k at closed w q p kn st = absurd (omega arith)
  list_on (also e es) [] k at closed w q p kn st = absurd (omega arith)
  list_on (also e es) (v ∷ vs) k at closed w q p kn st =
      let n = length t.classes in
      let b = and_true (expr_known n e) (exprs_known n es) kn in
      let a1 = at + length (code_of e) in
      let l = length-append (code_of e) (codes_of es) in
      let end : a1 + length (codes_of es) ≡ at + length (code_of e ++ codes_of es) = omega arith in
      let h : wanted_of (layout t) items k ≡ Some (bytes_of v) = ap (wanted_of (layout t) items) (let z : k ≡ k + 0 = omega arith in z) ∙ w 0 in
      let later : (j : ℕ) → wanted_of (layout t) items (k + 1 + j) ≡ found_type (get_elem? vs j) = λ j. ap (wanted_of (layout t) items) (let z : k + 1 + j ≡ k + suc j = omega arith in z) ∙ w (suc j) in
      let x = ih.types e at p.0 b.0 (stands_front (layout t) at (code_of e) (codes_of es) st) in
      ap (λ (o : RustOption Typed). listed o (λ d next. pick (item_fits (layout t) items k d) (list_by (layout t) one items (k + 1) (count es) (pick (closed_tag d.tag) closed false) next) list.No)) x
      ∙ front_on t wf items k v vs closed (a1 + length (codes_of es)) (λ c next. list_by (layout t) one items (k + 1) (count es) c next) h
      (type_of t in_main g e) (types_of t in_main g es) a1 (λ u z. typed-known t wf in_main g kg e u b.0 z)
      (λ c. list_on es vs (k + 1) a1 c later (let z : count es ≡ length vs = omega arith in z) p.1 b.1 (stands_after (layout t) at (code_of e) (codes_of es) st))
      ∙ ap (listed_at t (types_of t in_main g (also e es)) (v ∷ vs) closed) end
