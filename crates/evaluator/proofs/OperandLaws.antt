-- An operand's number, the language's sums and choices by the numbers of their operands, and two numbers put together.
-- Not here: the evaluations that give them (NumberLaws).
use Rattle.std.proofs.Common.{ℕ, ◌+◌, ◌<◌, arith, ◌≡◌, refl, ap, ◌∙◌, Bool, true, false, cond, List, eqb, ltb, ltb-true}
use Rattle.cofj.specs.Limits.{number_count}
use Rattle.cofj.specs.Syntax as syntax
use Rattle.cofj.specs.Syntax.{Expr, combine, choose, Table}
use Rattle.cofj.specs.Values.{Graph, canon, number_in, number_of}
use Rattle.cofj.specs.Running as language
use Rattle.cofj.specs.Running.{Outcome, value, stopped, ◌then◌, or_stuck, eval, reckon}
use Rattle.classes.specs.declared.shape.Operation.{Operation}
use Rattle.classes.specs.declared.shape.Operation.TheVariants.{Sum, Difference}
use Rattle.classes.specs.Shapes.{operation_of}
use Rattle.values.specs.declared.ValueRef.{ValueRef}
use Rattle.values.specs.Layout.{value_of}
use Rattle.values.specs.declared.ValueRef.TheVariants.{Object, Mark, Number, Undetermined}
use Rattle.std.specs.declared.result.Result.TheVariants.{Ok, Err}
use Rattle.evaluator.specs.declared.Stop.TheVariants.{Overflow}
use Rattle.evaluator.specs.Answers.{Done, Operand, value_at, counted_at, out_in, out_with, OutOlder, NextIs, number_at, operand_of, number_with, reckoned, counted_of}
use Rattle.evaluator.specs.Evaluation.{eval_in}

-- ---- an outcome's number, stuck if it is none
abbrev pub as_number : Outcome Graph → Outcome ℕ
as_number x = x then λ v n. or_stuck (number_in v) n

number_then : (x : Outcome Graph) (go : ℕ → ℕ → Outcome Graph) → (x then λ v n. or_stuck (number_in v) n then go) ≡ (as_number x then go)
number_then (value v n) go = refl
number_then (stopped s n) go = refl

pub operand_is : (W : List ℕ) (o : Done) (fuel : ℕ) → number_with fuel (operand_of o) ≡ as_number (out_in W (out_with fuel o))
unfolding canon
operand_is W (Ok e) fuel = go e.value
  where
    go : (v : ValueRef) → number_with fuel (counted_of v e.next) ≡ as_number (value (value_of W v) fuel)
    go (Object i b) = refl
    go (Mark k) = refl
    go (Number n) = refl
    go Undetermined = refl
operand_is W (Err s) fuel = refl

-- what an answer is whose operand is a number
abbrev tagged : Operand → ℕ
tagged (Ok c) = 1
tagged (Err s) = 0

abbrev answered : Operand → Done
answered (Ok c) = number_at c.number c.next
answered (Err s) = Err s

pub operand_back : (o : Done) (n at : ℕ) → operand_of o ≡ counted_at n at → o ≡ number_at n at
operand_back (Ok a) n at e = go a.value refl e
  where
    go : (v : ValueRef) → a.value ≡ v → counted_of v a.next ≡ counted_at n at → Ok a ≡ number_at n at
    go (Object i b) q z = absurd (let y : 0 ≡ 1 = ap tagged z in omega arith)
    go (Mark k) q z = absurd (let y : 0 ≡ 1 = ap tagged z in omega arith)
    go (Number m) q z = ap (λ (v : ValueRef). value_at v a.next) q ∙ ap answered z
    go Undetermined q z = absurd (let y : 0 ≡ 1 = ap tagged z in omega arith)
operand_back (Err s) n at e = absurd (let z : 0 ≡ 1 = ap tagged e in omega arith)

-- ---- the language's sum and choice, by what its operands give as numbers
module _ (objects d : ℕ) (t : Table) (p : language.Frame) (os : List language.OpenCall) (fuel : ℕ) where
  abbrev gives : Expr → ℕ → Outcome Graph
  gives e n = eval_in objects d t p os e n

  pub combine_as : (x : syntax.Operation) (a b : Expr) → gives (combine x a b) fuel ≡ (as_number (gives a fuel) then λ k n. as_number (gives b n) then λ l m. reckon x k l m)
  unfolding eval
  combine_as x a b =
      number_then (gives a fuel) (λ k n. gives b n then λ w m. or_stuck (number_in w) m then λ l m'. reckon x k l m')
      ∙ (λ i. as_number (gives a fuel) then λ k n. number_then (gives b n) (λ l m. reckon x k l m) i)

  -- the branch that is taken
  abbrev pub taken : Expr → Expr → Bool → ℕ → Outcome Graph
  taken a b z n = elim z as (λ _. Outcome Graph) [ true ↦ gives b n | false ↦ gives a n ]

  pub choose_as : (c a b : Expr) → gives (choose c a b) fuel ≡ (as_number (gives c fuel) then λ k n. taken a b (eqb k 0) n)
  unfolding eval
  choose_as c a b = number_then (gives c fuel) (λ k n. taken a b (eqb k 0) n)

-- ---- two numbers put together
module _ (W : List ℕ) (x y next fuel : ℕ) where
  pub reckoned_in : (o : Operation) → out_in W (out_with fuel (reckoned o x y next)) ≡ reckon (operation_of o) x y fuel
  unfolding reckoned reckon
  reckoned_in Sum = go (ltb (x + y) number_count)
    where
      go : (b : Bool) → out_in W (out_with fuel (cond b (number_at (x + y) next) (Err Overflow))) ≡ (elim b as (λ _. Outcome Graph) [ true ↦ value (number_of (x + y)) fuel | false ↦ stopped language.overflow fuel ])
      go true = refl
      go false = refl
  reckoned_in Difference = refl

  pub reckoned_older : (o : Operation) (sp : ℕ) → x < number_count → OutOlder W sp (out_with fuel (reckoned o x y next))
  unfolding reckoned
  reckoned_older Sum sp l = go (ltb (x + y) number_count) refl
    where
      go : (b : Bool) → ltb (x + y) number_count ≡ b → OutOlder W sp (out_with fuel (cond b (number_at (x + y) next) (Err Overflow)))
      go true e = record { held = record { held = ltb-true (x + y) number_count e }; low = tt }
      go false e = tt
  reckoned_older Difference sp l = record { held = record { held = omega arith }; low = tt }

  pub reckoned_next : (o : Operation) (p : ℕ) → next ≡ p → NextIs (out_with fuel (reckoned o x y next)) p
  unfolding reckoned
  reckoned_next Sum p e = go (ltb (x + y) number_count)
    where
      go : (b : Bool) → NextIs (out_with fuel (cond b (number_at (x + y) next) (Err Overflow))) p
      go true = e
      go false = tt
  reckoned_next Difference p e = e
