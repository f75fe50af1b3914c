-- The typing rules of 002 (figure 7, over the types of figure 5) as document 01 changes them: what "has a type" MEANS.
-- A constructor is a rule under the paper's name: its premises and side conditions, a line, its conclusion. The comment above says the
-- rule, and after "Document 01:" what differs from 002.
-- Not here: the checker, which computes these rules (Typing; proofs/TypingRules proves it), and ok_override, which is refusal 5 (WellFormed).
use Rattle.std.specs.Prelude.{ℕ, ◌≤◌, ◌≡◌, Bool, true, false, cond, ◌⊎◌}
use mathlib.Core.List.{List, [], ◌∷◌, map, Memᴰ}
use Rattle.std.proofs.Math.Option.{Option, none, some}
use Rattle.std.proofs.Math.ListN.{get_elem?}
use Rattle.cofj.specs.Partial.{as_list}
use Rattle.cofj.specs.Syntax.{Operation, Expr, this, res, param, field, call, new, literal, combine, choose, Exprs, done, also, Ty, ty, Class, Method, Table}
use Rattle.cofj.specs.Classes.{class_at, fields_of}
use Rattle.cofj.specs.Lookup.{found_in, lookup}
use Rattle.cofj.specs.Typing.{Env, narrow, close_tag, number_type, Checked, refused, accepted}
use Rattle.cofj.specs.WellFormed.{AllMethods}

infix 90 ◌⁺
infix 90 ◌⁺?
infix 90 ◌⁻?
infix 90 ◌⁻
-- ---- types, written as in the paper: a class with its tag
abbrev pub ◌⁺ : ℕ → Ty
c ⁺ = ty c 0

abbrev pub ◌⁺? : ℕ → Ty
c ⁺? = ty c 1

abbrev pub ◌⁻? : ℕ → Ty
c ⁻? = ty c 2

abbrev pub ◌⁻ : ℕ → Ty
c ⁻ = ty c 3

-- the paper's T, as against T?: a type without a question mark
abbrev pub Closed : Ty → Type 0
Closed u = (u.tag ≡ 0) ⊎ (u.tag ≡ 3)

abbrev pub AllClosed : List Ty → Type 0
AllClosed [] = Unit {0}
AllClosed (u ∷ us) = Closed u × AllClosed us

-- the paper's U⇓: the question mark removed, 1 read as 0 and 2 as 3 (its other operator, U⇓₊, is `narrow`: 1 and 2 read as 0)
abbrev pub closing : Ty → Ty
closing u = ty u.cls (close_tag u.tag)

-- ---- subtyping
-- Class c fits d when d is c or stands above c on the chain of parents. Document 02: the class byte of numbers is no class of the table, so it
-- fits only itself.
pub data SubClass (cs : List Class) : ℕ → ℕ → Type 0 where
  same : {c : ℕ} → SubClass cs c c
  above : {c d : ℕ} {k : Class} → class_at cs c ≡ some k → SubClass cs k.parent d → SubClass cs c d

-- A type fits another when its class fits and its tag is not larger.
-- Document 01: this is the chain C⁺ ≤ C⁺? ≤ C⁻? ≤ C⁻ in the text of section 4; figure 6 prints another order, which isn't used.
pub record Fits (cs : List Class) (u w : Ty) : Type 0 where
  pub class : SubClass cs u.cls w.cls
  pub tag : u.tag ≤ w.tag

-- As many types as types, and each fits the one at its place.
pub data AllFit (cs : List Class) : List Ty → List Ty → Type 0 where
  fit_none : AllFit cs [] []
  fit_each : {u w : Ty} {us ws : List Ty} → Fits cs u w → AllFit cs us ws → AllFit cs (u ∷ us) (w ∷ ws)

-- ---- expressions
module _ (t : Table) (in_main : Bool) (Γ : Env) where
  mutual
    -- The paper's g; Γ ⊢ e : U, where g is + when `in_main` is true, that is, in main.
    pub data HasType : Expr → Ty → Type 0 where
      -- A variable has its declared type: this,
      T-VAR-this :
          {u : Ty}
          → Γ.this ≡ some u
          -- ---------------
          → HasType this u
      -- res,
      T-VAR-res :
          {u : Ty}
          → Γ.res ≡ some u
          -- -----------------
          → HasType res u
      -- a parameter.
      T-VAR-param :
          {k : ℕ} {u : Ty}
          → get_elem? Γ.params k ≡ some u
          -- ------------------------------
          → HasType (param k) u
      -- The receiver is plus, tag 00 and no other, and its class has a field f: the type is the field's.
      T-FIELD :
          {f c : ℕ} {e : Expr} {u : Ty}
          → HasType e (c ⁺)
          → get_elem? (fields_of t.classes c) f ≡ some u
          -- --------------------------------------------
          → HasType (field f e) u
      -- The receiver is plus and has the method, which class c' owns; the arguments are closed, as many as the parameters, and fit them.
      -- The type is the first result type in main and the second in a body.
      -- Document 01: says of the arguments in words, tags 00 and 03 only, what 002 says by the letter T'.
      T-INVK :
          {m c c' : ℕ} {e : Expr} {es : Exprs} {us : List Ty} {d : Method} {u : Ty}
          → HasType e (c ⁺)
          → HaveTypes es us
          → lookup t c m ≡ some (found_in c' d)
          → AllClosed us
          → AllFit t.classes us d.params
          → u ≡ cond in_main d.first d.second
          -- ----------------------------------
          → HasType (call m e es) u
      -- The values are closed, as many as the fields, and fit them: the object is plus.
      T-NEW1 :
          {c : ℕ} {es : Exprs} {us : List Ty}
          → HaveTypes es us
          → AllClosed us
          → AllFit t.classes us (fields_of t.classes c)
          -- -----------------------------------------------
          → HasType (new c es) (c ⁺)
      -- Some value is open: each open one is read as plus for the fit, and the object is open.
      -- Document 01: only then, so that T-NEW1 and T-NEW2 never give one expression two types.
      T-NEW2 :
          {c : ℕ} {es : Exprs} {us : List Ty}
          → HaveTypes es us
          → (AllClosed us → ⊥)
          → AllFit t.classes (map narrow us) (fields_of t.classes c)
          -- ------------------------------------------------------------
          → HasType (new c es) (c ⁺?)
      -- ---- document 02's numbers
      T-NUMBER :
          {n : ℕ}
          -- ---------------------------
          → HasType (literal n) number_type
      -- A sum or a difference: both operands are numbers, of tag 00.
      T-COMBINE :
          {o : Operation} {a b : Expr}
          → HasType a number_type
          → HasType b number_type
          -- ------------------------------
          → HasType (combine o a b) number_type
      -- What is asked is a number, of tag 00, and the branches' types fit one way: the wider is the type. The first fits the second,
      T-CHOOSE-second :
          {c a b : Expr} {u v : Ty}
          → HasType c number_type
          → HasType a u
          → HasType b v
          → Fits t.classes u v
          -- -----------------------
          → HasType (choose c a b) v
      -- or only the second fits the first.
      T-CHOOSE-first :
          {c a b : Expr} {u v : Ty}
          → HasType c number_type
          → HasType a u
          → HasType b v
          → (Fits t.classes u v → ⊥)
          → Fits t.classes v u
          -- -----------------------
          → HasType (choose c a b) u

    -- The paper's g; Γ ⊢ e : U with a bar over e and U: the types of a list, item by item.
    pub data HaveTypes : Exprs → List Ty → Type 0 where
      T-NONE : HaveTypes done []
      T-EACH : {e : Expr} {es : Exprs} {u : Ty} {us : List Ty} → HasType e u → HaveTypes es us → HaveTypes (also e es) (u ∷ us)

-- ---- methods, classes, programs
-- the variables of a method's left side, and of its right side, where res is known too: u is the left side's type
abbrev pub left_variables : Method → Env
left_variables d = record { this = some (d.owner ⁺); res = none; params = d.params }

abbrev pub right_variables : Method → Ty → Env
right_variables d u = record { this = some (d.owner ⁺); res = some (u.cls ⁻?); params = d.params }

-- in main parameter 0 has the type of its input, if it takes one, and nothing else has a type
abbrev pub main_variables : Option Ty → Env
main_variables i = record { this = none; res = none; params = as_list i }

-- The left side, closed, fits the first result type; the right side fits the second; the first fits the second.
-- Document 01: and the left side itself fits the second. The owner's ok_override is refusal 5, before types are looked at.
pub data MethodTyped (t : Table) (d : Method) : Type 0 where
  T-MDEC :
      {u v : Ty}
      → HasType t false (left_variables d) d.left u
      → HasType t false (right_variables d u) d.right v
      → Fits t.classes (closing u) d.first
      → Fits t.classes v d.second
      → Fits t.classes d.first d.second
      → Fits t.classes u d.second
      -- ------------------------------------------------
      → MethodTyped t d

-- A class is typed when its methods are.
pub data ClassTyped (t : Table) (c : ℕ) : Type 0 where
  T-CDEC :
      ((d : Method) → Memᴰ d t.methods → d.owner ≡ c → MethodTyped t d)
      -- -----------------------------------------------------------------------
      → ClassTyped t c

-- A program is typed when its classes are and main has a type, u.
pub data ProgramTyped (t : Table) (u : Ty) : Type 0 where
  T-PROG :
      ((c : ℕ) → ClassTyped t c)
      → HasType t true (main_variables t.input) t.main u
      -- ----------------------------------------------------
      → ProgramTyped t u

-- ---- what a check has to answer
pub data Judged (t : Table) : Checked → Type 0 where
  -- A method of the table has no type.
  REFUSAL-6 :
      {d : Method}
      → Memᴰ d t.methods
      → (MethodTyped t d → ⊥)
      -- -----------------------
      → Judged t (refused 6)
  -- Every method has a type, and main has none.
  REFUSAL-7 :
      AllMethods (MethodTyped t) t.methods
      → ((u : Ty) → HasType t true (main_variables t.input) t.main u → ⊥)
      -- ---------------------------------------------------------------------
      → Judged t (refused 7)
  -- The program is typed: the answer is main's type.
  ACCEPTED :
      {u : Ty}
      → ProgramTyped t u
      -- --------------------
      → Judged t (accepted u)
