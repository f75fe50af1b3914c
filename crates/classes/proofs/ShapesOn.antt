-- What stands at the place of an expression in the bytes of a table, and which expression has a shape.
-- Not here: shapes at the code's grain (ShapeLaws), what a type or a run makes of them.
use Rattle.std.proofs.Common.{ℕ, ◌+◌, ◌*◌, ◌/◌, ◌%◌, ◌≤◌, arith, ◌≡◌, refl, sym, ap, ◌∙◌, subst, Bool, true, false, List, [], ◌∷◌, ◌++◌, ltb, length, get_or, ltb-false}
use Rattle.std.proofs.Math.ListN.{get_or-eq_default}
use Rattle.cofj.specs.Syntax.{Operation, sum, difference, Expr, this, res, param, field, call, new, literal, combine, choose, Exprs, count, Table}
use Rattle.cofj.specs.Writing.{operation_sign, code_of, codes_of}
use Rattle.lineform.specs.Signs.{this_sign, res_sign, parameter_sign, field_sign, call_sign, new_sign, number_sign, sum_sign, difference_sign, choose_sign, sign_row}
use Rattle.classes.specs.Machine.{pick}
use Rattle.classes.specs.Figures.{table_size}
use Rattle.classes.specs.Layout.{layout, Stands}
use Rattle.classes.specs.declared.shape.Operation as shape-operation
use Rattle.classes.specs.declared.shape.Operation.TheVariants as operation
use Rattle.classes.specs.declared.shape.Shape.{Shape}
use Rattle.classes.specs.declared.shape.Shape.TheVariants as shape
use Rattle.classes.specs.Shapes.{operation_of, byte_in, shape_of, shape_at}
use Rattle.classes.proofs.Zones.{length-layout, stands_first, stands_rest, stands_after}

-- ---- by the first one, two or three bytes of an expression
module _ (t : Table) where
  pub past : (at : ℕ) → table_size ≤ at → get_or (layout t) at 0 ≡ 0
  past at h = get_or-eq_default (layout t) 0 (let e = length-layout t in let q : length (layout t) ≤ at = omega arith in q)

  pub byte_is : (at : ℕ) → byte_in (layout t) at ≡ get_or (layout t) at 0
  byte_is at = go (ltb at table_size) refl
    where
      go : (b : Bool) → ltb at table_size ≡ b → pick b (get_or (layout t) at 0) 0 ≡ get_or (layout t) at 0
      go true q = refl
      go false q = sym (past at (ltb-false at table_size q))

  shape_is : (at b k n : ℕ) → (b ≡ 0 → ⊥) → get_or (layout t) at 0 ≡ b → get_or (layout t) (at + 1) 0 ≡ k → get_or (layout t) (at + 2) 0 ≡ n
      → shape_at (layout t) at ≡ shape_of b k n at
  unfolding shape_at
  shape_is at b k n nz eb ek en = go (ltb at table_size) refl
    where
      go : (x : Bool) → ltb at table_size ≡ x
          → pick x (shape_of (get_or (layout t) at 0) (byte_in (layout t) (at + 1)) (byte_in (layout t) (at + 2)) at) Shape.Nothing ≡ shape_of b k n at
      go true q =
          let p : byte_in (layout t) (at + 1) ≡ k = byte_is (at + 1) ∙ ek in
          let r : byte_in (layout t) (at + 2) ≡ n = byte_is (at + 2) ∙ en in
          λ i. shape_of (eb i) (p i) (r i) at
      go false q = absurd (nz (sym eb ∙ past at (ltb-false at table_size q)))

  module _ (at b : ℕ) (nz : b ≡ 0 → ⊥) where
    one_byte : (bs : List ℕ) → Stands (layout t) at (b ∷ bs) → shape_at (layout t) at ≡ shape_of b (get_or (layout t) (at + 1) 0) (get_or (layout t) (at + 2) 0) at
    one_byte bs st = shape_is at b _ _ nz (stands_first (layout t) at b bs st) refl refl

    module _ (k : ℕ) where
      second : (bs : List ℕ) → Stands (layout t) at (b ∷ k ∷ bs) → get_or (layout t) (at + 1) 0 ≡ k
      second bs st = stands_first (layout t) (at + 1) k bs (stands_rest (layout t) at b (k ∷ bs) st)

      two_bytes : (bs : List ℕ) → Stands (layout t) at (b ∷ k ∷ bs) → shape_at (layout t) at ≡ shape_of b k (get_or (layout t) (at + 2) 0) at
      two_bytes bs st = shape_is at b k _ nz (stands_first (layout t) at b (k ∷ bs) st) (second bs st) refl

      three_bytes_lem : (n : ℕ) (bs : List ℕ) → Stands (layout t) at (b ∷ k ∷ n ∷ bs) → shape_at (layout t) at ≡ shape_of b k n at
      three_bytes_lem n bs st =
          shape_is at b k n nz (stands_first (layout t) at b (k ∷ n ∷ bs) st) (second (n ∷ bs) st)
          (stands_first (layout t) (at + 2) n bs (stands_after (layout t) at (b ∷ k ∷ []) (n ∷ bs) st))

-- ---- an expression's shape
abbrev pub operation_in : Operation → shape-operation.Operation
operation_in sum = operation.Sum
operation_in difference = operation.Difference

abbrev pub shape_for : Expr → ℕ → Shape
shape_for this at = shape.This (at + 1)
shape_for res at = shape.Result (at + 1)
shape_for (param k) at = shape.Parameter k (at + 2)
shape_for (field f e) at = shape.Field f (at + 2)
shape_for (call m e es) at = shape.Call m (count es) (at + 3)
shape_for (new c es) at = shape.New c (count es) (at + 3)
shape_for (literal n) at = shape.Number (n / 256) (n % 256) (at + 3)
shape_for (combine o a b) at = shape.Combine (operation_in o) (at + 1)
shape_for (choose c a b) at = shape.Choose (at + 1)

pub shape_on : (t : Table) (e : Expr) (at : ℕ) → Stands (layout t) at (code_of e) → shape_at (layout t) at ≡ shape_for e at
unfolding code_of sign_row
shape_on t this at st = one_byte t at this_sign (λ z. omega arith) [] st
shape_on t res at st = one_byte t at res_sign (λ z. omega arith) [] st
shape_on t (param k) at st = two_bytes t at parameter_sign (λ z. omega arith) k [] st
shape_on t (field f e) at st = two_bytes t at field_sign (λ z. omega arith) f (code_of e) st
shape_on t (call m e es) at st = three_bytes_lem t at call_sign (λ z. omega arith) m (count es) (code_of e ++ codes_of es) st
shape_on t (new c es) at st = three_bytes_lem t at new_sign (λ z. omega arith) c (count es) (codes_of es) st
shape_on t (literal n) at st = three_bytes_lem t at number_sign (λ z. omega arith) (n / 256) (n % 256) [] st
shape_on t (combine sum a b) at st = one_byte t at sum_sign (λ z. omega arith) (code_of a ++ code_of b) st
shape_on t (combine difference a b) at st = one_byte t at difference_sign (λ z. omega arith) (code_of a ++ code_of b) st
shape_on t (choose c a b) at st = one_byte t at choose_sign (λ z. omega arith) (code_of c ++ (code_of a ++ code_of b)) st

-- and where its parts stand
module _ (t : Table) (at : ℕ) where
  pub field_part : (f : ℕ) (e : Expr) → Stands (layout t) at (code_of (field f e)) → Stands (layout t) (at + 2) (code_of e)
  unfolding code_of
  field_part f e st = stands_after (layout t) at (field_sign ∷ f ∷ []) (code_of e) st

  pub call_parts : (m : ℕ) (e : Expr) (es : Exprs) → Stands (layout t) at (code_of (call m e es)) → Stands (layout t) (at + 3) (code_of e ++ codes_of es)
  unfolding code_of
  call_parts m e es st = stands_after (layout t) at (call_sign ∷ m ∷ count es ∷ []) (code_of e ++ codes_of es) st

  pub new_parts : (c : ℕ) (es : Exprs) → Stands (layout t) at (code_of (new c es)) → Stands (layout t) (at + 3) (codes_of es)
  unfolding code_of
  new_parts c es st = stands_after (layout t) at (new_sign ∷ c ∷ count es ∷ []) (codes_of es) st

  pub combine_parts : (o : Operation) (a b : Expr) → Stands (layout t) at (code_of (combine o a b)) → Stands (layout t) (at + 1) (code_of a ++ code_of b)
  unfolding code_of
  combine_parts o a b st = stands_rest (layout t) at (operation_sign o) (code_of a ++ code_of b) st

  pub choose_parts : (c a b : Expr) → Stands (layout t) at (code_of (choose c a b)) → Stands (layout t) (at + 1) (code_of c ++ (code_of a ++ code_of b))
  unfolding code_of
  choose_parts c a b st = stands_rest (layout t) at choose_sign (code_of c ++ (code_of a ++ code_of b)) st

-- ---- back: the expression at `at` that has a shape, and the place after its first bytes
abbrev pub HasShape : ℕ → Expr → Shape → Type 0
HasShape at e (shape.This next) = (e ≡ this) × (next ≡ at + 1)
HasShape at e (shape.Result next) = (e ≡ res) × (next ≡ at + 1)
HasShape at e (shape.Parameter k next) = (e ≡ param k) × (next ≡ at + 2)
HasShape at e (shape.Field f next) = (x : Expr) × (e ≡ field f x) × (next ≡ at + 2)
HasShape at e (shape.Call m n next) = (x : Expr) × (xs : Exprs) × (e ≡ call m x xs) × (count xs ≡ n) × (next ≡ at + 3)
HasShape at e (shape.New c n next) = (xs : Exprs) × (e ≡ new c xs) × (count xs ≡ n) × (next ≡ at + 3)
HasShape at e (shape.Number k n next) = (e ≡ literal (256 * k + n)) × (next ≡ at + 3)
HasShape at e (shape.Combine o next) = (a : Expr) × (b : Expr) × (e ≡ combine (operation_of o) a b) × (next ≡ at + 1)
HasShape at e (shape.Choose next) = (c : Expr) × (a : Expr) × (b : Expr) × (e ≡ choose c a b) × (next ≡ at + 1)
HasShape at e shape.Nothing = ⊥

shape_own : (e : Expr) (at : ℕ) → HasShape at e (shape_for e at)
shape_own this at = (refl, refl)
shape_own res at = (refl, refl)
shape_own (param k) at = (refl, refl)
shape_own (field f e) at = (e, refl, refl)
shape_own (call m e es) at = (e, es, refl, refl, refl)
shape_own (new c es) at = (es, refl, refl, refl)
shape_own (literal n) at = (ap literal (let q : n ≡ 256 * (n / 256) + n % 256 = omega arith in q), refl)
shape_own (combine sum a b) at = (a, b, refl, refl)
shape_own (combine difference a b) at = (a, b, refl, refl)
shape_own (choose c a b) at = (c, a, b, refl, refl)

pub shape_back : (e : Expr) (at : ℕ) (s : Shape) → shape_for e at ≡ s → HasShape at e s
shape_back e at s q = subst (HasShape at e) q (shape_own e at)
