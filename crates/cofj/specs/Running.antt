-- Running: what the big-step rules of 002 (figures 2 and 3), as document 01 changes them, give for a table, its input and fuel.
-- Left to right; the first outcome that is no value is the outcome of the whole. The rules themselves stand in RunningRules.
-- Differs from 002: fuel, depth and size; numbers; the count of a `new` is judged before its values, a call's receiver before its arguments.
use Rattle.std.specs.Prelude.{ℕ, zero, suc, ◌+◌, ◌-◌, true, false, List, [], ◌∷◌, eqb, ltb, length}
use Rattle.std.proofs.Math.Option.{Option, none, some}
use Rattle.std.proofs.Math.ListN.{get_elem?}
use Rattle.cofj.specs.Limits.{Limits, standard, number_count}
use Rattle.cofj.specs.Partial.{as_list}
use Rattle.cofj.specs.Syntax.{Operation, sum, difference, Expr, this, res, param, field, call, new, literal, combine, choose, Exprs, done, also, count, Method, Table}
use Rattle.cofj.specs.Classes.{fields_of, fields_to}
use Rattle.cofj.specs.Lookup.{Found, lookup, lookup_to, method_of}
use Rattle.cofj.specs.Values.{Graph, obj, leaf, make, select, close, eq_graph, eq_graphs, mark_of, number_of, number_in, node_at}

-- why a run ends without a value
pub data Stop : Type 0 where
  stuck no_fuel too_deep too_large overflow : Stop

-- what evaluation gives: a value or what it stopped at, and the fuel that is left
pub data Outcome (A : Type 0) : Type 0 where
  value : A → ℕ → Outcome A
  stopped : Stop → ℕ → Outcome A

infixl 20 ◌then◌
abbrev pub ◌then◌ : {A B : Type 0} → Outcome A → (A → ℕ → Outcome B) → Outcome B
value a n then f = f a n
stopped l n then f = stopped l n

-- 002's frame: this, res and the parameters, each where it has a value
pub record Frame : Type 0 where
  pub this : Option Graph
  pub res : Option Graph
  pub params : List Graph

-- an open left-side call and its mark; 002's call trace is a list of these, the newest first
pub record OpenCall : Type 0 where
  pub receiver : Graph
  pub name : ℕ
  pub args : List Graph
  pub label : ℕ

abbrev pub or_stuck : {A : Type 0} → Option A → ℕ → Outcome A
or_stuck none n = stopped stuck n
or_stuck (some a) n = value a n

-- the mark of the open call with this receiver, name and arguments
unfoldable pub open_mark : List OpenCall → Graph → ℕ → List Graph → Option ℕ
unfolding eq_graph eq_graphs
open_mark [] v m vs = none
open_mark (o ∷ os) v m vs =
    elim (eqb o.name m) [
      | true ↦ elim (eq_graph o.receiver v) [
        | true ↦ elim (eq_graphs o.args vs) [ true ↦ some o.label | false ↦ open_mark os v m vs ]
        | false ↦ open_mark os v m vs
      ]
      | false ↦ open_mark os v m vs
    ]

-- the class of an object
abbrev pub class_of : Graph → Option ℕ
class_of g = elim g.root [ obj i ↦ some (node_at g.nodes i).cls | leaf l ↦ none ]

-- Evaluation of the bodies of calls: the frame, the open left-side calls, the expression, the fuel.
abbrev pub Deeper : Type 0
Deeper = Frame → List OpenCall → Expr → ℕ → Outcome Graph

-- the method that a call names and where it was found, if the receiver is an object, has it, and the counts agree
unfoldable pub target : Table → Graph → ℕ → ℕ → Option Found
unfolding lookup_to method_of
target t v m n =
    elim (class_of v) [
      | none ↦ none
      | some c ↦ elim (lookup t c m) [ none ↦ none | some f ↦ elim (eqb (length f.body.params) n) [ true ↦ some f | false ↦ none ] ]
    ]

abbrev pub frame_of : Graph → Option Graph → List Graph → Frame
frame_of v r vs = record { this = some v; res = r; params = vs }

abbrev pub opened : List OpenCall → Graph → ℕ → List Graph → List OpenCall
opened os v m vs = record { receiver = v; name = m; args = vs; label = length os } ∷ os

-- A call, its receiver, method and arguments known: first fuel, of which one unit is spent; then depth (`none`: as many calls are open as may
-- be); then whether it is met again. A fresh mark is the number of open left-side calls, which no value has that is alive.
unfoldable pub invoke : Option Deeper → List OpenCall → Graph → ℕ → List Graph → Method → ℕ → Outcome Graph
unfolding open_mark close
invoke deeper os v m vs d zero = stopped no_fuel zero
invoke none os v m vs d (suc n) = stopped too_deep n
invoke (some body) os v m vs d (suc n) =
    elim (open_mark os v m vs) [
      | some x ↦ body (frame_of v (some (mark_of x)) vs) os d.right n
      | none ↦ body (frame_of v none vs) (opened os v m vs) d.left n then λ u n'. value (close (length os) u) n'
    ]

-- too large: more than so many distinct objects, the new one included
unfoldable pub sized : ℕ → Graph → ℕ → Outcome Graph
sized objects g n = elim (ltb objects (length g.nodes)) [ true ↦ stopped too_large n | false ↦ value g n ]

-- two numbers put together: a sum above the largest number stops the run, a difference below 0 is 0
unfoldable pub reckon : Operation → ℕ → ℕ → ℕ → Outcome Graph
reckon sum x y n = elim (ltb (x + y) number_count) [ true ↦ value (number_of (x + y)) n | false ↦ stopped overflow n ]
reckon difference x y n = value (number_of (x - y)) n

-- `deeper` evaluates the bodies of calls, if one more call may be opened
module _ (objects : ℕ) (t : Table) (deeper : Option Deeper) where
  unfoldable mutual
    unfolding invoke target make select sized reckon fields_to

    pub eval : Frame → List OpenCall → Expr → ℕ → Outcome Graph
    eval fr os this n = or_stuck fr.this n
    eval fr os res n = or_stuck fr.res n
    eval fr os (param k) n = or_stuck (get_elem? fr.params k) n
    eval fr os (field f e) n = eval fr os e n then λ v n'. or_stuck (select f v) n'
    eval fr os (call m e es) n =
        eval fr os e n then λ v n'.
        or_stuck (target t v m (count es)) n' then λ f n''.
        evals fr os es n'' then λ vs n'''.
        invoke deeper os v m vs f.body n'''
    eval fr os (new c es) n =
        elim (eqb (length (fields_of t.classes c)) (count es)) [
          | true ↦ evals fr os es n then λ vs n'. sized objects (make c vs) n'
          | false ↦ stopped stuck n
        ]
    eval fr os (literal k) n = value (number_of k) n
    eval fr os (combine o a b) n =
        eval fr os a n then λ v n'.
        or_stuck (number_in v) n' then λ x n''.
        eval fr os b n'' then λ w n'''.
        or_stuck (number_in w) n''' then λ y n''''.
        reckon o x y n''''
    eval fr os (choose c a b) n =
        eval fr os c n then λ v n'.
        or_stuck (number_in v) n' then λ x n''.
        elim (eqb x 0) [ true ↦ eval fr os b n'' | false ↦ eval fr os a n'' ]

    pub evals : Frame → List OpenCall → Exprs → ℕ → Outcome (List Graph)
    evals fr os done n = value [] n
    evals fr os (also e es) n = eval fr os e n then λ v n'. evals fr os es n' then λ vs n''. value (v ∷ vs) n''

-- evaluation with room for so many more open calls; both sides of a method count as open while they run
unfoldable pub eval_to : ℕ → ℕ → Table → Deeper
unfolding eval
eval_to objects zero t fr os e n = eval objects t none fr os e n
eval_to objects (suc d) t fr os e n = eval objects t (some (λ fr' os' e' n'. eval_to objects d t fr' os' e' n')) fr os e n

-- in main parameter 0 is the input, if there is one, and nothing else has a value
abbrev pub main_frame : Option Graph → Frame
main_frame i = record { this = none; res = none; params = as_list i }

unfoldable pub run_within : Limits → Table → Option Graph → ℕ → Outcome Graph
unfolding eval_to
run_within l t i n = eval_to l.objects l.depth t (main_frame i) [] t.main n

-- a run with document 01's limits
unfoldable pub run : Table → Option Graph → ℕ → Outcome Graph
unfolding run_within
run t i n = run_within standard t i n
