-- Type fit, what calls and lists ask, and the types of variables, on a table's bytes B, at the code's grain.
-- Not here: the walk of an expression (Machine), and that these are the language's rules (proofs/).
use Rattle.std.specs.Prelude.{Bool, false, cond, ◌&&◌, List, ℕ, ◌+◌, get_or, eqb, leb, Some, None}
use Rattle.std.specs.declared.option.Option.{Option}
use Rattle.cofj.specs.Limits.{number_class}
use Rattle.cofj.specs.Typing.{closed_tag, close_tag}
use Rattle.classes.specs.declared.chain.FieldType.{FieldType}
use Rattle.classes.specs.declared.methods.Found.{Found}
use Rattle.classes.specs.Machine.{pick, fits_of, type_at, field_of, param_of, input_type, method_with, row_of}
use Rattle.checker.specs.Items.{Items}
use Rattle.checker.specs.Items.{Parameters, Fields}
use Rattle.checker.specs.declared.scope.Typed.{Typed}
use Rattle.checker.specs.declared.scope.Scope.{Scope}

-- the type of class c and tag g
abbrev pub tagged : ℕ → ℕ → FieldType
tagged c g = record { class = c; tag = g }

-- type u fits d: its class fits, and its tag is not larger
abbrev pub fits_type : List ℕ → FieldType → FieldType → Bool
fits_type B u d = pick (leb u.tag d.tag) (fits_of B u.class d.class) false

-- the type of a number, of tag 0
unfoldable pub is_number : FieldType → Bool
is_number u = eqb u.class number_class && eqb u.tag 0

-- the wider of two types, where one fits the other
unfoldable pub wider_of : List ℕ → FieldType → FieldType → Option FieldType
wider_of B u v = pick (fits_type B u v) (Some v) (pick (fits_type B v u) (Some u) None)

-- an open tag read as 0
abbrev pub narrow_tag : ℕ → ℕ
narrow_tag g = cond (closed_tag g) g 0

abbrev pub narrow_type : FieldType → FieldType
narrow_type u = tagged u.class (narrow_tag u.tag)

-- 1 read as 0 and 2 as 3
abbrev pub close_type : FieldType → FieldType
close_type u = tagged u.class (close_tag u.tag)

-- ---- the items of a list
abbrev pub wanted_of : List ℕ → Items → ℕ → Option FieldType
wanted_of B (Parameters i) k = param_of B i k
wanted_of B (Fields c) k = field_of B c k

abbrev pub fits_found : List ℕ → FieldType → Option FieldType → Bool
fits_found B u (Some d) = fits_type B u d
fits_found B u None = false

unfoldable pub item_fits : List ℕ → Items → ℕ → FieldType → Bool
item_fits B items k u = fits_found B (narrow_type u) (wanted_of B items k)

-- an argument has a closed tag
unfoldable pub arg_fits : List ℕ → ℕ → ℕ → FieldType → Bool
arg_fits B i k u = pick (closed_tag u.tag) (item_fits B (Parameters i) k u) false

-- ---- calls
-- the method m with n parameters of a receiver of type u
unfoldable pub receiver_of : List ℕ → FieldType → ℕ → ℕ → Option Found
receiver_of B u m n = pick (eqb u.tag 0) (method_with B u.class m n) None

abbrev pub result_of : List ℕ → Bool → ℕ → FieldType
result_of B in_main i = pick in_main (type_at B (row_of i + 3)) (type_at B (row_of i + 5))

-- ---- variables
-- an expression of type u that ends before `next`
abbrev pub has : FieldType → ℕ → Option Typed
has u next = Some (record { ty = u; next = next })

abbrev pub found_at : Option FieldType → ℕ → Option Typed
found_at (Some d) next = has d next
found_at None next = None

abbrev pub this_of : List ℕ → Scope → ℕ → Option Typed
this_of B s next = pick s.main None (has (tagged (get_or B (row_of s.method + 1) 0) 0) next)

abbrev pub res_in : Option ℕ → ℕ → Option Typed
res_in None next = None
res_in (Some c) next = has (tagged c 2) next

abbrev pub res_of : Scope → ℕ → Option Typed
res_of s next = res_in s.res next

-- in main parameter 0 has the input's type
abbrev pub input_var : List ℕ → ℕ → ℕ → Option Typed
input_var B k next = pick (eqb k 0) (found_at (input_type B) next) None

abbrev pub param_var : List ℕ → Scope → ℕ → ℕ → Option Typed
param_var B s k next = pick s.main (input_var B k next) (found_at (param_of B s.method k) next)
