-- What the second text of a run gives main, by the language's `feed`. Not here: the value of a text (batch, Inputs).
use Rattle.std.specs.Prelude.{ℕ, ◌≡◌, Bool, true, List, Ok, Err}
use Rattle.std.specs.declared.result.Result.{Result}
use Rattle.cofj.specs.declared.Refusal.{Refusal}
use Rattle.cofj.specs.Refusals.{refusal_number}
use Rattle.cofj.specs.Syntax.{Table}
use Rattle.cofj.specs.Calls.{Admitted, declined, admitted, feed}
use Rattle.classes.specs.Layout.{Tabled}
use Rattle.canon.specs.Layout.{Inside}
use Rattle.evaluator.specs.Main.{input_in}

-- a table with what main is fed, where the block B has the value if it is fed one; or refused
abbrev pub fed_with : Table → List ℕ → Result Bool Refusal → Admitted
fed_with t B (Ok fed) = admitted t (input_in fed B)
fed_with t B (Err k) = declined (refusal_number k)

-- the second text i of the table whose bytes T are
pub record TextFed (T i B : List ℕ) (r : Result Bool Refusal) : Type 0 where
  pub is : (t : Table) → Tabled T t → feed t i ≡ fed_with t B r
  pub inside : r ≡ Ok true → Inside B 0 0
