-- specs/Machine at each return of the code that goes by the first byte of an expression. Not here: fields, calls and lists (WalkLaws).
use Rattle.std.proofs.Common.{◌≡◌, refl, sym, ◌∙◌, Bool, true, false, List, ℕ, zero, suc, ◌+◌, ◌-◌, ◌<◌, ◌≤◌, arith, sub-one, None, get_or, eqb, ne_eqb, lt-ltb, le-ltb, ltb-true, ltb-false}
use Rattle.std.specs.declared.option.Option.{Option}
use Rattle.lineform.specs.Signs.{this_sign, res_sign, parameter_sign, field_sign, call_sign, new_sign, number_sign, sum_sign, difference_sign, choose_sign, sign_size, is_variable}
use Rattle.classes.specs.Machine.{pick}
use Rattle.classes.specs.Figures.{table_size}
use Rattle.cofj.specs.Limits.{nesting_limit}
use Rattle.checker.specs.declared.scope.Typed.{Typed}
use Rattle.checker.specs.declared.scope.Scope.{Scope}
use Rattle.classes.specs.declared.shape.Operation.TheVariants.{Sum, Difference}
use Rattle.classes.specs.declared.shape.Shape.{Shape}
use Rattle.classes.specs.declared.shape.Shape.TheVariants as shape
use Rattle.classes.specs.Shapes.{byte_in, shape_of, shape_at}
use Rattle.checker.specs.Types.{this_of, res_of, param_var}
use Rattle.checker.specs.Machine.{Walk, field_by, call_by, new_by, number_at, combine_by, choose_by, step_by, var_by, numbers_by, parts_by, type_in}

step : (B : List ℕ) (left : ℕ) (s : Scope) (at : ℕ) → (left ≡ 0 → ⊥) → type_in B left s at ≡ step_by B (type_in B (left - 1) s) s (shape_at B at)
unfolding type_in
step B zero s at nz = absurd (nz refl)
step B (suc left) s at nz = rw sub-one

-- in the table
step_in : (B : List ℕ) (left : ℕ) (s : Scope) (at : ℕ) → (left ≡ 0 → ⊥) → at < table_size
    → type_in B left s at ≡ step_by B (type_in B (left - 1) s) s (shape_of (get_or B at 0) (byte_in B (at + 1)) (byte_in B (at + 2)) at)
unfolding shape_at
step_in B left s at nz h = step B left s at nz ∙ rw (lt-ltb at table_size h)

-- the shape of an expression of numbers, of the number with the bytes k and n
abbrev number_shape : ℕ → ℕ → ℕ → ℕ → Shape
number_shape b k n next =
    pick (eqb b number_sign) (shape.Number k n next)
    (pick (eqb b sum_sign) (shape.Combine Sum next) (pick (eqb b difference_sign) (shape.Combine Difference next) (pick (eqb b choose_sign) (shape.Choose next) shape.Nothing)))

var_is : (B : List ℕ) (one : Walk) (s : Scope) (b at : ℕ) → b < field_sign → step_by B one s (shape_of b (byte_in B (at + 1)) (byte_in B (at + 2)) at) ≡ var_by B s b at
unfolding var_by
var_is B one s b at h =
    rw (ne_eqb b field_sign (λ z. omega arith), ne_eqb b call_sign (λ z. omega arith), ne_eqb b new_sign (λ z. omega arith), ne_eqb b number_sign (λ z. omega arith), ne_eqb b sum_sign (λ z. omega arith), ne_eqb b difference_sign (λ z. omega arith), ne_eqb b choose_sign (λ z. omega arith))
    (go (eqb b this_sign) (eqb b res_sign) (eqb b parameter_sign) (at + sign_size b))
  where
    go : (x y z : Bool) (next : ℕ)
        → step_by B one s (pick x (shape.This next) (pick y (shape.Result next) (pick z (shape.Parameter (byte_in B (at + 1)) next) shape.Nothing)))
        ≡ pick x (this_of B s next) (pick y (res_of s next) (pick z (param_var B s (byte_in B (at + 1)) next) None))
    go true y z next = refl
    go false true z next = refl
    go false false true next = refl
    go false false false next = refl

numbers_are : (B : List ℕ) (one : Walk) (s : Scope) (b at k n : ℕ) → step_by B one s (number_shape b k n (at + sign_size b)) ≡ numbers_by B one b at
unfolding numbers_by
numbers_are B one s b at k n = go (eqb b number_sign) (eqb b sum_sign) (eqb b difference_sign) (eqb b choose_sign) (at + sign_size b)
  where
    go : (x y z w : Bool) (next : ℕ)
        → step_by B one s (pick x (shape.Number k n next) (pick y (shape.Combine Sum next) (pick z (shape.Combine Difference next) (pick w (shape.Choose next) shape.Nothing))))
        ≡ pick x (number_at next) (pick y (combine_by one next) (pick z (combine_by one next) (pick w (choose_by B one next) None)))
    go true y z w next = refl
    go false true z w next = refl
    go false false true w next = refl
    go false false false true next = refl
    go false false false false next = refl

parts_are : (B : List ℕ) (one : Walk) (s : Scope) (b at : ℕ) → field_sign ≤ b
    → step_by B one s (shape_of b (byte_in B (at + 1)) (byte_in B (at + 2)) at) ≡ parts_by B one s.main b at
unfolding parts_by
parts_are B one s b at h =
    rw (ne_eqb b this_sign (λ z. omega arith), ne_eqb b res_sign (λ z. omega arith), ne_eqb b parameter_sign (λ z. omega arith))
    (go (eqb b field_sign) (eqb b call_sign) (eqb b new_sign) (at + sign_size b) (number_shape b k n (at + sign_size b)) (numbers_by B one b at) (numbers_are B one s b at k n))
  where
    k : ℕ
    k = byte_in B (at + 1)

    n : ℕ
    n = byte_in B (at + 2)

    go : (x y z : Bool) (next : ℕ) (other : Shape) (last : Option Typed) → step_by B one s other ≡ last
        → step_by B one s (pick x (shape.Field k next) (pick y (shape.Call k n next) (pick z (shape.New k n next) other)))
        ≡ pick x (field_by B one k next) (pick y (call_by B one s.main k n next) (pick z (new_by B one k n next) last))
    go true y z next other last e = refl
    go false true z next other last e = refl
    go false false true next other last e = refl
    go false false false next other last e = e

module _ (B : List ℕ) (left : ℕ) (s : Scope) (at : ℕ) where
  pub at_zero : left ≡ 0 → None ≡ type_in B left s at
  unfolding type_in
  at_zero e = rw e

  module _ (nz : left ≡ 0 → ⊥) where
    pub at_past : table_size ≤ at → None ≡ type_in B left s at
    unfolding shape_at
    at_past h = rw (step B left s at nz, le-ltb at table_size h)

    module _ (h : at < table_size) (r : Option Typed) (x : Bool) (ex : x ≡ is_variable (get_or B at 0)) where
      pub at_var : x ≡ true → r ≡ var_by B s (get_or B at 0) at → r ≡ type_in B left s at
      at_var q p = rw (step_in B left s at nz h, var_is B (type_in B (left - 1) s) s (get_or B at 0) at (ltb-true (get_or B at 0) field_sign (sym ex ∙ q))) p

      pub at_parts : x ≡ false → r ≡ parts_by B (type_in B (left - 1) s) s.main (get_or B at 0) at → r ≡ type_in B left s at
      at_parts q p = rw (step_in B left s at nz h, parts_are B (type_in B (left - 1) s) s (get_or B at 0) at (ltb-false (get_or B at 0) field_sign (sym ex ∙ q))) p

-- and a whole body: some nesting is left
pub some_left : nesting_limit ≡ 0 → ⊥
some_left z = omega arith
