-- What the code answers, of an expression and of a list, as the language's outcomes; a new object put in a block.
-- Not here: what evaluation answers of an expression (Evaluation), of a call (Calling) and of main (Main).
use Rattle.std.specs.Prelude.{ℕ, ◌+◌, ◌*◌, ◌-◌, ◌≡◌, cond, List, [], ◌∷◌, ltb}
use Rattle.cofj.specs.Limits.{number_count}
use Rattle.cofj.specs.Values.{Graph, make}
use Rattle.cofj.specs.Running as language
use Rattle.cofj.specs.Running.{Outcome, value, stopped, ◌then◌}
use Rattle.classes.specs.Skipping.{skip_of}
use Rattle.classes.specs.declared.shape.Operation.{Operation}
use Rattle.classes.specs.declared.shape.Operation.TheVariants.{Sum, Difference}
use Rattle.values.specs.declared.ValueRef.{ValueRef}
use Rattle.values.specs.declared.ValueRef.TheVariants.{Object, Mark, Number, Undetermined}
use Rattle.values.specs.Layout.{value_of}
use Rattle.maker.specs.Laying.{values_from}
use Rattle.evaluator.specs.declared.Stop.{Stop}
use Rattle.evaluator.specs.declared.Stop.TheVariants.{Stuck, NoFuel, TooDeep, TooLarge, Overflow}
use Rattle.std.specs.declared.option.Option.{Option as RustOption}
use Rattle.std.specs.declared.option.Option.TheVariants.{Some, None}
use Rattle.std.specs.declared.result.Result.{Result}
use Rattle.std.specs.declared.result.Result.TheVariants.{Ok, Err}
use Rattle.evaluator.specs.declared.Evaluated.{Evaluated}
use Rattle.evaluator.specs.declared.Counted.{Counted}
use Rattle.evaluator.specs.State.{slot_at, Kept, Older, PartsOlder}

-- ---- what the code answers
-- of an expression: its value and the place after it
abbrev pub Done : Type 0
Done = Result Evaluated Stop

abbrev pub value_at : ValueRef → ℕ → Done
value_at v next = Ok (record { value = v; next = next })

-- of an operand: its number and the place after it
abbrev pub Operand : Type 0
Operand = Result Counted Stop

abbrev pub counted_at : ℕ → ℕ → Operand
counted_at n next = Ok (record { number = n; next = next })

-- of a list, its values being lent: the place after it
abbrev pub Walked : Type 0
Walked = Result ℕ Stop

-- ---- with the fuel left
-- of an expression: its value, the place after it and the fuel left; or what the run stopped at and the fuel left
pub data Out : Type 0 where
  Value : ValueRef → ℕ → ℕ → Out
  Halt : Stop → ℕ → Out

-- of a list: its values in order
pub data Listed : Type 0 where
  Values : ValueRef → ValueRef → ValueRef → ValueRef → ℕ → ℕ → Listed
  Stops : Stop → ℕ → Listed

-- ---- answers as the language's outcomes
abbrev pub stop_of : Stop → language.Stop
stop_of Stuck = language.stuck
stop_of NoFuel = language.no_fuel
stop_of TooDeep = language.too_deep
stop_of TooLarge = language.too_large
stop_of Overflow = language.overflow

abbrev pub out_in : List ℕ → Out → Outcome Graph
out_in W (Value v at fuel) = value (value_of W v) fuel
out_in W (Halt s fuel) = stopped (stop_of s) fuel

abbrev pub slots_of : ValueRef → ValueRef → ValueRef → ValueRef → List ValueRef
slots_of a b c d = a ∷ b ∷ c ∷ d ∷ []

abbrev pub list_in : List ℕ → ℕ → Listed → Outcome (List Graph)
list_in W n (Values a b c d at fuel) = value (values_from W (slots_of a b c d) 0 n) fuel
list_in W n (Stops s fuel) = stopped (stop_of s) fuel

abbrev pub front_of : ValueRef → Listed → Listed
front_of v (Values a b c d at fuel) = Values v a b c at fuel
front_of v (Stops s fuel) = Stops s fuel

-- a value lies below block sp; the place after its expression is p
abbrev pub OutOlder : List ℕ → ℕ → Out → Type 0
OutOlder W sp (Value v at fuel) = Older W sp v
OutOlder W sp (Halt s fuel) = Unit {0}

abbrev pub ListOlder : List ℕ → ℕ → ℕ → Listed → Type 0
ListOlder W sp n (Values a b c d at fuel) = PartsOlder W sp (slots_of a b c d) n
ListOlder W sp n (Stops s fuel) = Unit {0}

abbrev pub NextIs : Out → ℕ → Type 0
NextIs (Value v at fuel) p = at ≡ p
NextIs (Halt s fuel) p = Unit {0}

abbrev pub ListNext : Listed → ℕ → Type 0
ListNext (Values a b c d at fuel) p = at ≡ p
ListNext (Stops s fuel) p = Unit {0}

-- the answer o, with the work bytes W, is the outcome x, and p is the place after the expression
pub record Shows (W : List ℕ) (o : Out) (p : ℕ) (x : Outcome Graph) : Type 0 where
  pub is : out_in W o ≡ x
  pub next : NextIs o p

pub record ShowsAll (W : List ℕ) (n : ℕ) (o : Listed) (p : ℕ) (x : Outcome (List Graph)) : Type 0 where
  pub is : list_in W n o ≡ x
  pub next : ListNext o p

-- ---- the code's answers, with the fuel left
abbrev pub out_with : ℕ → Done → Out
out_with fuel (Ok e) = Value e.value e.next fuel
out_with fuel (Err s) = Halt s fuel

-- of a list, whose values A has, from place i on
abbrev pub list_from : ℕ → List ValueRef → ℕ → Walked → Listed
list_from fuel A i (Ok at) = Values (slot_at A i) (slot_at A (i + 1)) (slot_at A (i + 2)) (slot_at A (i + 3)) at fuel
list_from fuel A i (Err s) = Stops s fuel

-- what a part stopped at, as the answer of the whole
abbrev pub stops_as : {A B : Type 0} → Result A Stop → Result B Stop
stops_as (Ok x) = Err Stuck
stops_as (Err s) = Err s

-- what a variable holds, as an answer
abbrev pub done_of : RustOption ValueRef → ℕ → Done
done_of (Some r) next = value_at r next
done_of None next = Err Stuck

abbrev pub out_of : RustOption ValueRef → ℕ → ℕ → Out
out_of (Some r) next fuel = Value r next fuel
out_of None next fuel = Halt Stuck fuel

-- ---- numbers
-- the number of two bytes, the high one first
abbrev pub two_bytes : ℕ → ℕ → ℕ
two_bytes k n = 256 * k + n

abbrev pub number_at : ℕ → ℕ → Done
number_at n next = value_at (Number n) next

-- a value as an operand: stuck if it is no number
abbrev pub counted_of : ValueRef → ℕ → Operand
counted_of (Object i b) at = Err Stuck
counted_of (Mark k) at = Err Stuck
counted_of (Number n) at = counted_at n at
counted_of Undetermined at = Err Stuck

-- an answer as one
abbrev pub operand_of : Done → Operand
operand_of (Ok e) = counted_of e.value e.next
operand_of (Err s) = Err s

-- the number of an operand, as an outcome
abbrev pub number_with : ℕ → Operand → Outcome ℕ
number_with fuel (Ok c) = value c.number fuel
number_with fuel (Err s) = stopped (stop_of s) fuel

-- two numbers put together; `next` is the place after
unfoldable pub reckoned : Operation → ℕ → ℕ → ℕ → Done
reckoned Sum x y next = cond (ltb (x + y) number_count) (number_at (x + y) next) (Err Overflow)
reckoned Difference x y next = number_at (x - y) next

-- a number and an operand put together
abbrev pub combined : Operation → ℕ → Operand → Done
combined o x (Ok c) = reckoned o x c.number c.next
combined o x (Err s) = Err s

-- an answer with the place after the expression that follows it in the table's bytes T
abbrev pub passed_over : List ℕ → Done → Done
passed_over T (Ok e) = value_at e.value (skip_of T e.next)
passed_over T (Err s) = Err s

-- ---- values put in block sp
-- a new object of class k with the values of a list, unless it has more than so many objects
pub record Finishes (W : List ℕ) (k : ℕ) (l : Listed) (n objects sp : ℕ) (W' : List ℕ) (o : Out) : Type 0 where
  pub kept : Kept sp W W'
  pub older : OutOlder W' (sp + 1) o
  pub is : out_in W' o ≡ (list_in W n l then λ vs m. language.sized objects (make k vs) m)
  pub next : (p : ℕ) → ListNext l p → NextIs o p
