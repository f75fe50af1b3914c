-- The types of sums, differences and choices in the bytes of a table are the language's. Not here: other expressions (Expressions).
use Rattle.std.proofs.Common.{ℕ, ◌+◌, arith, ◌≡◌, refl, sym, ap, ◌∙◌, Bool, true, false, ◌&&◌, ◌++◌, length, length-append, Some, None}
use Rattle.std.proofs.Math.Option.{Option, none, some}
use Rattle.std.specs.declared.option.Option.{Option as RustOption}
use Rattle.cofj.specs.Partial.{◌>>=◌, guard}
use Rattle.cofj.specs.Syntax.{Expr, Ty, eq_ty, Table}
use Rattle.cofj.specs.Classes.{fits}
use Rattle.cofj.specs.Typing.{Env, number_type, combine_type, wider, choose_type, type_of}
use Rattle.cofj.specs.Tables.{known, expr_known}
use Rattle.cofj.specs.Writing.{code_of}
use Rattle.cofj.specs.WellFormed.{WellFormed}
use Rattle.cofj.proofs.Partial.{and_true}
use Rattle.classes.specs.Machine.{pick}
use Rattle.classes.specs.Layout.{layout, Stands, bytes_of, found_type}
use Rattle.classes.proofs.Zones.{stands_front, stands_after}
use Rattle.checker.specs.declared.scope.Typed.{Typed}
use Rattle.checker.specs.Types.{is_number, wider_of, found_at}
use Rattle.checker.specs.Machine.{Walk, typed, number_at, operand_by, combine_by, branches_by, choose_by}
use Rattle.checker.specs.Answers.{typed_at}
use Rattle.checker.proofs.Known.{KnownEnv, typed-known}
use Rattle.checker.proofs.OnBytes.{fits_on}
use Rattle.checker.proofs.Lists.{Finds}

pub found_typed : (o : Option Ty) (next : ℕ) → found_at (found_type o) next ≡ typed_at o next
found_typed none next = refl
found_typed (some u) next = refl

-- nothing comes of an answer that is followed by none
pub none_after : {A : Type 0} (o : Option A) (f : A → Option Ty) → ((a : A) → o ≡ some a → f a ≡ none) → o >>= f ≡ none
none_after none f h = refl
none_after (some a) f h = h a refl

-- ---- an operand
-- the type of a number, where the answer is it
abbrev number : Option Ty → Option Ty
number o = o >>= λ u. guard (eq_ty u number_type) >>= λ _. some number_type

operand_is : (o : Option Ty) (next : ℕ) → typed (typed_at o next) (λ d to. pick (is_number d) (number_at to) None) ≡ typed_at (number o) next
unfolding is_number
operand_is none next = refl
operand_is (some u) next = go (eq_ty u number_type)
  where
    go : (b : Bool) → pick b (number_at next) None ≡ typed_at (guard b >>= λ _. some number_type) next
    go true = refl
    go false = refl

-- what follows an operand: K of whether it is a number, and nothing where it is none
after_operand : (o : Option Ty) (K : Bool → Option Ty) (r : Walk) (next end : ℕ) → K false ≡ none → r next ≡ typed_at (K true) end
    → typed (typed_at (number o) next) (λ d to. r to) ≡ typed_at (o >>= λ u. K (eq_ty u number_type)) end
after_operand none K r next end n e = refl
after_operand (some u) K r next end n e = go (eq_ty u number_type)
  where
    go : (b : Bool) → typed (typed_at (guard b >>= λ _. some number_type) next) (λ d to. r to) ≡ typed_at (K b) end
    go true = e
    go false = ap (λ (x : Option Ty). typed_at x end) (sym n)

-- ---- two branches
module _ (t : Table) (wf : WellFormed t) where
  wider_is : (u v : Ty) (next : ℕ) → known (length t.classes) u ≡ true → known (length t.classes) v ≡ true
      → found_at (wider_of (layout t) (bytes_of u) (bytes_of v)) next ≡ typed_at (wider t u v) next
  unfolding wider_of wider
  wider_is u v next h k = rw (fits_on t wf u v h, fits_on t wf v u k) (go (fits t.classes u v) (fits t.classes v u))
    where
      go : (a b : Bool) → found_at (pick a (Some (bytes_of v)) (pick b (Some (bytes_of u)) None)) next
          ≡ typed_at (elim a as (λ _. Option Ty) [ true ↦ some v | false ↦ guard b >>= λ _. some u ]) next
      go true b = refl
      go false true = refl
      go false false = refl

  branches_are : (o p : Option Ty) (r : Walk) (next end : ℕ) → ((u : Ty) → o ≡ some u → known (length t.classes) u ≡ true)
      → ((v : Ty) → p ≡ some v → known (length t.classes) v ≡ true) → r next ≡ typed_at p end
      → typed (typed_at o next) (λ d to. typed (r to) (λ f after. found_at (wider_of (layout t) d f) after))
      ≡ typed_at (o >>= λ u. p >>= λ v. wider t u v) end
  branches_are none p r next end h k e = refl
  branches_are (some u) p r next end h k e =
      ap (λ (x : RustOption Typed). typed x (λ f after. found_at (wider_of (layout t) (bytes_of u) f) after)) e ∙ go p k
    where
      go : (q : Option Ty) → ((v : Ty) → q ≡ some v → known (length t.classes) v ≡ true)
          → typed (typed_at q end) (λ f after. found_at (wider_of (layout t) (bytes_of u) f) after) ≡ typed_at (q >>= λ v. wider t u v) end
      go none k = refl
      go (some v) k = wider_is u v end (h u refl) (k v refl)

-- ---- where `one` finds the types of the parts
module _ (t : Table) (wf : WellFormed t) (in_main : Bool) (g : Env) (P : Expr → Type 0) (one : Walk) (ih : Finds t in_main g P one) where
  abbrev Known : Expr → Type 0
  Known e = expr_known (length t.classes) e ≡ true

  operand_on : (e : Expr) (at : ℕ) → P e → Known e → Stands (layout t) at (code_of e) → operand_by one at ≡ typed_at (number (type_of t in_main g e)) (at + length (code_of e))
  unfolding operand_by
  operand_on e at p k st =
      ap (λ (o : RustOption Typed). typed o (λ d next. pick (is_number d) (number_at next) None)) (ih.types e at p k st) ∙ operand_is (type_of t in_main g e) (at + length (code_of e))

  pub combine_on : (a b : Expr) (at : ℕ) → P a × P b → Known a × Known b → Stands (layout t) at (code_of a ++ code_of b)
      → combine_by one at ≡ typed_at (type_of t in_main g a >>= λ u. type_of t in_main g b >>= λ v. combine_type t u v) (at + length (code_of a ++ code_of b))
  unfolding combine_by combine_type
  combine_on a b at p k st =
      let next = at + length (code_of a) in
      let end = next + length (code_of b) in
      let l = length-append (code_of a) (code_of b) in
      let to : end ≡ at + length (code_of a ++ code_of b) = omega arith in
      ap (λ (o : RustOption Typed). typed o (λ d to. operand_by one to)) (operand_on a at p.0 k.0 (stands_front (layout t) at (code_of a) (code_of b) st))
      ∙ after_operand (type_of t in_main g a) (λ x. type_of t in_main g b >>= λ v. guard (x && eq_ty v number_type) >>= λ _. some number_type) (operand_by one) next end
      (none_after (type_of t in_main g b) (λ v. none) (λ v z. refl)) (operand_on b next p.1 k.1 (stands_after (layout t) at (code_of a) (code_of b) st))
      ∙ ap (typed_at (type_of t in_main g a >>= λ u. type_of t in_main g b >>= λ v. combine_type t u v)) to

  module _ (kg : KnownEnv (length t.classes) g) where
    branches_on : (a b : Expr) (at : ℕ) → P a → P b → Known a → Known b → Stands (layout t) at (code_of a ++ code_of b)
        → branches_by (layout t) one at ≡ typed_at (type_of t in_main g a >>= λ u. type_of t in_main g b >>= λ v. wider t u v) (at + length (code_of a) + length (code_of b))
    unfolding branches_by
    branches_on a b at pa pb ka kb st =
        let next = at + length (code_of a) in
        ap (λ (o : RustOption Typed). typed o (λ d to. typed (one to) (λ f after. found_at (wider_of (layout t) d f) after)))
        (ih.types a at pa ka (stands_front (layout t) at (code_of a) (code_of b) st))
        ∙ branches_are t wf (type_of t in_main g a) (type_of t in_main g b) one next (next + length (code_of b))
        (λ u z. typed-known t wf in_main g kg a u ka z) (λ v z. typed-known t wf in_main g kg b v kb z)
        (ih.types b next pb kb (stands_after (layout t) at (code_of a) (code_of b) st))

    pub choose_on : (c a b : Expr) (at : ℕ) → P c × P a × P b → expr_known (length t.classes) c && expr_known (length t.classes) a && expr_known (length t.classes) b ≡ true
        → Stands (layout t) at (code_of c ++ (code_of a ++ code_of b))
        → choose_by (layout t) one at ≡ typed_at (type_of t in_main g c >>= λ w. type_of t in_main g a >>= λ u. type_of t in_main g b >>= λ v. choose_type t w u v)
        (at + length (code_of c ++ (code_of a ++ code_of b)))
    unfolding choose_by choose_type
    choose_on c a b at p kn st =
        let n = length t.classes in
        let k = and_true (expr_known n c && expr_known n a) (expr_known n b) kn in
        let q = and_true (expr_known n c) (expr_known n a) k.0 in
        let next = at + length (code_of c) in
        let end = next + length (code_of a) + length (code_of b) in
        let l = length-append (code_of c) (code_of a ++ code_of b) in
        let m = length-append (code_of a) (code_of b) in
        let to : end ≡ at + length (code_of c ++ (code_of a ++ code_of b)) = omega arith in
        ap (λ (o : RustOption Typed). typed o (λ d to. branches_by (layout t) one to)) (operand_on c at p.0 q.0 (stands_front (layout t) at (code_of c) (code_of a ++ code_of b) st))
        ∙ after_operand (type_of t in_main g c) (λ x. type_of t in_main g a >>= λ u. type_of t in_main g b >>= λ v. guard x >>= λ _. wider t u v) (branches_by (layout t) one) next end
        (none_after (type_of t in_main g a) _ (λ u z. none_after (type_of t in_main g b) (λ v. none) (λ v y. refl)))
        (branches_on a b next p.1 p.2 q.1 k.1 (stands_after (layout t) at (code_of c) (code_of a ++ code_of b) st))
        ∙ ap (typed_at (type_of t in_main g c >>= λ w. type_of t in_main g a >>= λ u. type_of t in_main g b >>= λ v. choose_type t w u v)) to
