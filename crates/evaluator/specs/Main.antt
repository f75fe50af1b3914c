-- What a run of main begins with, and what it answers.
-- Not here: its report (Reporting).
use Rattle.std.specs.Prelude.{ℕ, ◌+◌, ◌≡◌, Bool, true, false, List, length}
use Rattle.std.proofs.Math.Option.{Option, none, some}
use Rattle.cofj.specs.Limits.{standard}
use Rattle.cofj.specs.Syntax.{Table}
use Rattle.cofj.specs.Values.{Graph}
use Rattle.cofj.specs.Running as language
use Rattle.classes.specs.Layout.{Tabled}
use Rattle.canon.specs.Layout.{Inside}
use Rattle.values.specs.declared.ValueRef.TheVariants.{Object}
use Rattle.values.specs.Layout.{value_of, Holds}
use Rattle.maker.specs.Fieldless.{Fieldless}
use Rattle.evaluator.specs.Figures.{input_block, main_block}
use Rattle.evaluator.specs.Answers.{Out, out_in, OutOlder}

-- ---- the input: the value of the bytes B, which are a block, from object 0 on, if one is given
-- what a given one asks
pub record Given (fed : Bool) (B : List ℕ) : Type 0 where
  pub inside : fed ≡ true → Inside B 0 0

abbrev pub input_in : Bool → List ℕ → Option Graph
input_in true B = some (value_of B (Object 0 0))
input_in false B = none

-- ---- the work bytes W' that main begins with: the objects without fields, and the input in its block
pub record Laid (fed : Bool) (B W W' : List ℕ) : Type 0 where
  pub same : length W' ≡ length W
  pub fieldless : Fieldless W'
  pub held : fed ≡ true → Holds W' (Object 0 input_block)
  pub is : fed ≡ true → value_of W' (Object 0 input_block) ≡ value_of B (Object 0 0)

-- ---- the outcome of main, with the work bytes W' after; its value, if it has one, lies in main's block or below
pub record Runs (T W : List ℕ) (fuel : ℕ) (fed : Bool) (B W' : List ℕ) (o : Out) : Type 0 where
  pub same : length W' ≡ length W
  pub older : OutOlder W' (main_block + 1) o
  pub is : (t : Table) → Tabled T t → out_in W' o ≡ language.run_within standard t (input_in fed B) fuel
