-- The type of an expression in a table's bytes B, at the code's grain: a step over what types the expressions nested less deep.
-- Not here: that on the bytes of an expression this is the language's `type_of` (proofs/Expressions).
use Rattle.std.specs.Prelude.{Bool, true, false, List, ℕ, zero, suc, ◌+◌, eqb, Some, None}
use Rattle.std.specs.declared.option.Option.{Option}
use Rattle.cofj.specs.Limits.{number_class}
use Rattle.cofj.specs.Typing.{closed_tag}
use Rattle.lineform.specs.Signs.{this_sign, res_sign, parameter_sign, field_sign, call_sign, new_sign, number_sign, sum_sign, difference_sign, choose_sign, sign_size}
use Rattle.classes.specs.declared.chain.FieldType.{FieldType}
use Rattle.classes.specs.declared.methods.Found.{Found}
use Rattle.classes.specs.Machine.{pick, field_of, total_of}
use Rattle.checker.specs.Items.{Items}
use Rattle.checker.specs.Items.{Parameters, Fields}
use Rattle.checker.specs.declared.scope.Typed.{Typed}
use Rattle.checker.specs.declared.scope.Scope.{Scope}
use Rattle.checker.specs.Listed.{Listed}
use Rattle.checker.specs.Listed as list
use Rattle.classes.specs.declared.shape.Shape.{Shape}
use Rattle.classes.specs.declared.shape.Shape.TheVariants as shape
use Rattle.classes.specs.Shapes.{byte_in, shape_at}
use Rattle.checker.specs.Types.{tagged, has, is_number, wider_of, item_fits, receiver_of, result_of, found_at, this_of, res_of, param_var}

-- what types the expression at a place
abbrev pub Walk : Type 0
Walk = ℕ → Option Typed

-- goes on with a type; no type is the answer of the whole
abbrev pub typed : Option Typed → (FieldType → ℕ → Option Typed) → Option Typed
typed (Some o) go = go o.ty o.next
typed None go = None

abbrev pub listed : Option Typed → (FieldType → ℕ → Listed) → Listed
listed (Some o) go = go o.ty o.next
listed None go = list.No

-- n expressions, each fitting its item from item k on
unfoldable pub list_by : List ℕ → Walk → Items → ℕ → ℕ → Bool → ℕ → Listed
list_by B one items k zero closed at = list.Past closed at
list_by B one items k (suc n) closed at =
    listed (one at)
    (λ u next. pick (item_fits B items k u) (list_by B one items (k + 1) n (pick (closed_tag u.tag) closed false) next) list.No)

unfoldable pub field_by : List ℕ → Walk → ℕ → ℕ → Option Typed
field_by B one f at = typed (one at) (λ u next. pick (eqb u.tag 0) (found_at (field_of B u.class f) next) None)

-- arguments have closed tags
abbrev pub args_then : List ℕ → Bool → ℕ → Listed → Option Typed
args_then B in_main i (list.Past closed next) = pick closed (has (result_of B in_main i) next) None
args_then B in_main i list.No = None

unfoldable pub args_by : List ℕ → Walk → Bool → ℕ → ℕ → ℕ → Option Typed
args_by B one in_main i n at = args_then B in_main i (list_by B one (Parameters i) 0 n true at)

abbrev pub called_by : List ℕ → Walk → Bool → ℕ → ℕ → Option Found → Option Typed
called_by B one in_main n at (Some f) = args_by B one in_main f.method n at
called_by B one in_main n at None = None

unfoldable pub call_by : List ℕ → Walk → Bool → ℕ → ℕ → ℕ → Option Typed
call_by B one in_main m n at = typed (one at) (λ u next. called_by B one in_main n next (receiver_of B u m n))

-- an object is open if a value is
abbrev pub new_then : ℕ → Listed → Option Typed
new_then c (list.Past closed next) = pick closed (has (tagged c 0) next) (has (tagged c 1) next)
new_then c list.No = None

unfoldable pub new_by : List ℕ → Walk → ℕ → ℕ → ℕ → Option Typed
new_by B one c n at = pick (eqb (total_of B c) n) (new_then c (list_by B one (Fields c) 0 n true at)) None

-- ---- numbers
abbrev pub number_at : ℕ → Option Typed
number_at next = has (tagged number_class 0) next

-- an operand is a number, of tag 0
unfoldable pub operand_by : Walk → ℕ → Option Typed
operand_by one at = typed (one at) (λ u next. pick (is_number u) (number_at next) None)

unfoldable pub combine_by : Walk → ℕ → Option Typed
combine_by one at = typed (operand_by one at) (λ u next. operand_by one next)

-- the types of two branches fit one way
unfoldable pub branches_by : List ℕ → Walk → ℕ → Option Typed
branches_by B one at =
    typed (one at) (λ u next. typed (one next) (λ v end. found_at (wider_of B u v) end))

unfoldable pub choose_by : List ℕ → Walk → ℕ → Option Typed
choose_by B one at = typed (operand_by one at) (λ u next. branches_by B one next)

abbrev pub step_by : List ℕ → Walk → Scope → Shape → Option Typed
step_by B one s (shape.This next) = this_of B s next
step_by B one s (shape.Result next) = res_of s next
step_by B one s (shape.Parameter k next) = param_var B s k next
step_by B one s (shape.Field f next) = field_by B one f next
step_by B one s (shape.Call m n next) = call_by B one s.main m n next
step_by B one s (shape.New c n next) = new_by B one c n next
step_by B one s (shape.Number k n next) = number_at next
step_by B one s (shape.Combine o next) = combine_by one next
step_by B one s (shape.Choose next) = choose_by B one next
step_by B one s shape.Nothing = None

-- ---- the same by the first byte b: an expression without parts, and one with parts
unfoldable pub var_by : List ℕ → Scope → ℕ → ℕ → Option Typed
var_by B s b at =
    pick (eqb b this_sign) (this_of B s (at + sign_size b))
    (pick (eqb b res_sign) (res_of s (at + sign_size b))
    (pick (eqb b parameter_sign) (param_var B s (byte_in B (at + 1)) (at + sign_size b)) None))

unfoldable pub numbers_by : List ℕ → Walk → ℕ → ℕ → Option Typed
numbers_by B one b at =
    pick (eqb b number_sign) (number_at (at + sign_size b))
    (pick (eqb b sum_sign) (combine_by one (at + sign_size b))
    (pick (eqb b difference_sign) (combine_by one (at + sign_size b))
    (pick (eqb b choose_sign) (choose_by B one (at + sign_size b)) None)))

unfoldable pub parts_by : List ℕ → Walk → Bool → ℕ → ℕ → Option Typed
parts_by B one in_main b at =
    pick (eqb b field_sign) (field_by B one (byte_in B (at + 1)) (at + sign_size b))
    (pick (eqb b call_sign) (call_by B one in_main (byte_in B (at + 1)) (byte_in B (at + 2)) (at + sign_size b))
    (pick (eqb b new_sign) (new_by B one (byte_in B (at + 1)) (byte_in B (at + 2)) (at + sign_size b)) (numbers_by B one b at)))

-- an expression nested at most `left` deep
unfoldable pub type_in : List ℕ → ℕ → Scope → Walk
type_in B zero s at = None
type_in B (suc left) s at = step_by B (type_in B left s) s (shape_at B at)
