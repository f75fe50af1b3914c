-- What stands at a place of an expression, at the code's grain. Past the end of a table stands nothing.
use Rattle.std.specs.Prelude.{List, Bool, false, ℕ, ◌+◌, ◌-◌, get_or, eqb, ltb}
use Rattle.cofj.specs.Syntax as cofj
use Rattle.lineform.specs.Signs.{this_sign, res_sign, parameter_sign, field_sign, call_sign, new_sign, number_sign, sum_sign, difference_sign, choose_sign, sign_size}
use Rattle.classes.specs.Machine.{pick}
use Rattle.classes.specs.Figures.{table_size}
use Rattle.classes.specs.declared.shape.Operation.{Operation}
use Rattle.classes.specs.declared.shape.Operation.TheVariants.{Sum, Difference}
use Rattle.classes.specs.declared.shape.Shape.{Shape}
use Rattle.classes.specs.declared.shape.Shape.TheVariants.{This, Result, Parameter, Field, Call, New, Number, Combine, Choose, Nothing}

-- what is done with two numbers, in the language
abbrev pub operation_of : Operation → cofj.Operation
operation_of Sum = cofj.sum
operation_of Difference = cofj.difference

-- the byte at a place, 0 past the end
abbrev pub byte_in : List ℕ → ℕ → ℕ
byte_in B at = pick (ltb at table_size) (get_or B at 0) 0

-- an expression whose first three bytes are b, k and n, with `next` the place after its sign and what belongs to it
abbrev pub shape_by : ℕ → ℕ → ℕ → ℕ → Shape
shape_by b k n next =
    pick (eqb b this_sign) (This next)
    (pick (eqb b res_sign) (Result next)
    (pick (eqb b parameter_sign) (Parameter k next)
    (pick (eqb b field_sign) (Field k next)
    (pick (eqb b call_sign) (Call k n next)
    (pick (eqb b new_sign) (New k n next)
    (pick (eqb b number_sign) (Number k n next)
    (pick (eqb b sum_sign) (Combine Sum next)
    (pick (eqb b difference_sign) (Combine Difference next)
    (pick (eqb b choose_sign) (Choose next)
    Nothing)))))))))

-- an expression at `at` whose first three bytes are b, k and n
abbrev pub shape_of : ℕ → ℕ → ℕ → ℕ → Shape
shape_of b k n at = shape_by b k n (at + sign_size b)

unfoldable pub shape_at : List ℕ → ℕ → Shape
shape_at B at = pick (ltb at table_size) (shape_of (get_or B at 0) (byte_in B (at + 1)) (byte_in B (at + 2)) at) Nothing

-- whether a field is selected at a place whose three bytes lie in the table
unfoldable pub is_field : List ℕ → ℕ → Bool
is_field B at = pick (ltb at (table_size - 2)) (eqb (get_or B at 0) field_sign) false
