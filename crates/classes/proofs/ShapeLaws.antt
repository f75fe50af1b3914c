-- specs/Shapes at each return of the code.
use Rattle.std.proofs.Common.{◌≡◌, refl, Bool, true, false, List, ℕ, ◌+◌, ◌-◌, ◌<◌, ◌≤◌, arith, get_or, eqb, ltb, lt-ltb, le-ltb, eqb-true, ltb-true}
use Rattle.std.proofs.Math.Bool.{false≢true}
use Rattle.lineform.specs.Signs.{this_sign, res_sign, parameter_sign, field_sign, call_sign, new_sign, number_sign, sum_sign, difference_sign, choose_sign, sign_row, sign_size}
use Rattle.lineform.proofs.SignLaws.{size_short}
use Rattle.classes.specs.Machine.{pick}
use Rattle.classes.specs.Figures.{table_size}
use Rattle.classes.specs.declared.shape.Operation.TheVariants.{Sum, Difference}
use Rattle.classes.specs.declared.shape.Shape.{Shape}
use Rattle.classes.specs.declared.shape.Shape.TheVariants.{This, Result, Parameter, Field, Call, New, Number, Combine, Choose, Nothing}
use Rattle.classes.specs.Shapes.{byte_in, shape_by, shape_of, shape_at, is_field}

module _ (B : List ℕ) (at : ℕ) where
  pub byte_in_lem : at < table_size → get_or B at 0 ≡ byte_in B at
  byte_in_lem h = rw (lt-ltb at table_size h)

-- ---- by the place
module _ (B : List ℕ) (at : ℕ) where
  pub shape_past : table_size ≤ at → Nothing ≡ shape_at B at
  unfolding shape_at
  shape_past h = rw (le-ltb at table_size h)

  -- the last two places
  pub shape_end : at < table_size → (k : ℕ) → k ≡ byte_in B (at + 1) → (n : ℕ) → n ≡ byte_in B (at + 2) → (r : Shape) → r ≡ shape_of (get_or B at 0) k n at → r ≡ shape_at B at
  unfolding shape_at
  shape_end h k ek n en r e = rw (lt-ltb at table_size h, ← ek, ← en) e

  pub shape_in : at < table_size - 2 → (r : Shape) → r ≡ shape_of (get_or B at 0) (get_or B (at + 1) 0) (get_or B (at + 2) 0) at → r ≡ shape_at B at
  shape_in h r e =
      shape_end (omega arith) (get_or B (at + 1) 0) (byte_in_lem B (at + 1) (omega arith)) (get_or B (at + 2) 0) (byte_in_lem B (at + 2) (omega arith)) r e

-- ---- the place after its bytes, at most three further on
abbrev pub Next : (ℕ → Type 0) → Shape → Type 0
Next P (This next) = P next
Next P (Result next) = P next
Next P (Parameter k next) = P next
Next P (Field f next) = P next
Next P (Call m n next) = P next
Next P (New c n next) = P next
Next P (Number k n next) = P next
Next P (Combine o next) = P next
Next P (Choose next) = P next
Next P Nothing = Unit {0}

module _ (P : ℕ → Type 0) where
  either : (b : Bool) (x y : Shape) → Next P x → Next P y → Next P (pick b x y)
  either true x y p q = p
  either false x y p q = q

  next_by : (b k n next : ℕ) → P next → Next P (shape_by b k n next)
  next_by b k n next p =
      either (eqb b this_sign) (This next) _ p
      (either (eqb b res_sign) (Result next) _ p
      (either (eqb b parameter_sign) (Parameter k next) _ p
      (either (eqb b field_sign) (Field k next) _ p
      (either (eqb b call_sign) (Call k n next) _ p
      (either (eqb b new_sign) (New k n next) _ p
      (either (eqb b number_sign) (Number k n next) _ p
      (either (eqb b sum_sign) (Combine Sum next) _ p
      (either (eqb b difference_sign) (Combine Difference next) _ p
      (either (eqb b choose_sign) (Choose next) Nothing p tt)))))))))

  pub shape_next : (B : List ℕ) (at : ℕ) → ((k : ℕ) → at < table_size → k ≤ 3 → P (at + k)) → Next P (shape_at B at)
  unfolding shape_at
  shape_next B at f = go (ltb at table_size) refl
    where
      go : (b : Bool) → ltb at table_size ≡ b → Next P (pick b (shape_of (get_or B at 0) (byte_in B (at + 1)) (byte_in B (at + 2)) at) Nothing)
      go true q = next_by (get_or B at 0) (byte_in B (at + 1)) (byte_in B (at + 2)) (at + sign_size (get_or B at 0)) (f (sign_size (get_or B at 0)) (ltb-true at table_size q) (size_short (get_or B at 0) 0))
      go false q = tt

-- ---- whether a field is selected at a place
module _ (B : List ℕ) (at : ℕ) where
  pub field_here : at < table_size - 2 → eqb (get_or B at 0) field_sign ≡ is_field B at
  unfolding is_field
  field_here l = rw (lt-ltb at (table_size - 2) l)

  pub field_past : table_size - 2 ≤ at → false ≡ is_field B at
  unfolding is_field
  field_past l = rw (le-ltb at (table_size - 2) l)

  field_tests : is_field B at ≡ true → (ltb at (table_size - 2) ≡ true) × (eqb (get_or B at 0) field_sign ≡ true)
  unfolding is_field
  field_tests e = go (ltb at (table_size - 2)) refl e
    where
      go : (b : Bool) → ltb at (table_size - 2) ≡ b → pick b (eqb (get_or B at 0) field_sign) false ≡ true → (b ≡ true) × (eqb (get_or B at 0) field_sign ≡ true)
      go true q z = (refl, z)
      go false q z = absurd (false≢true z)

  pub field_low : is_field B at ≡ true → at < table_size - 2
  field_low e = ltb-true at (table_size - 2) (field_tests e).0

  pub field_shape : is_field B at ≡ true → shape_at B at ≡ Field (get_or B (at + 1) 0) (at + 2)
  unfolding shape_at sign_row
  field_shape e =
      let l = field_low e in
      let b = eqb-true (get_or B at 0) field_sign (field_tests e).1 in
      rw (lt-ltb at table_size (omega arith), b, lt-ltb (at + 1) table_size (omega arith))
