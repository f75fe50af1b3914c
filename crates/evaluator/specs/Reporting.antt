-- The report of a run, written to the front of a lent buffer.
-- Not here: the report of an outcome in the language (cofj's Report), of a value (crate values, Reporting).
use Rattle.std.specs.Prelude.{ℕ, ◌≡◌, Bool, List, length}
use Rattle.cofj.specs.Syntax.{Table}
use Rattle.cofj.specs.Values.{Graph}
use Rattle.cofj.specs.Running.{Outcome, stopped, run}
use Rattle.cofj.specs.Report.{report_of, fuel_of, stop_byte}
use Rattle.cofj.specs.Calls.{over}
use Rattle.evaluator.specs.declared.Stop.{Stop}
use Rattle.evaluator.specs.declared.report.Reported.{Reported}
use Rattle.evaluator.specs.Answers.{stop_of}
use Rattle.evaluator.specs.Main.{input_in}
use Rattle.classes.specs.Layout.{Tabled}

-- document 01's number of what a run stopped at
abbrev pub stop_number : Stop → ℕ
stop_number s = stop_byte (stop_of s)

-- the report of what a run stopped at, whatever fuel is left
pub record StopReports (s : Stop) (R R' : List ℕ) : Type 0 where
  pub text : (n : ℕ) → R' ≡ over (report_of (stopped (stop_of s) n)) R

-- the report of an outcome in front of what was there; its length and the fuel left
pub record OutcomeReports (o : Outcome Graph) (R R' : List ℕ) (r : Reported) : Type 0 where
  pub count : r.length ≡ length (report_of o)
  pub left : r.fuel ≡ fuel_of o
  pub text : R' ≡ over (report_of o) R

-- main of the table whose bytes T are is run and reported, with the input in the block B if one is given; n and n' are the lengths of the work buffer
pub record RunReports (T : List ℕ) (fuel : ℕ) (fed : Bool) (B : List ℕ) (n : ℕ) (R : List ℕ) (n' : ℕ) (R' : List ℕ) (r : Reported) : Type 0 where
  pub same : n' ≡ n
  pub is : (t : Table) → Tabled T t → OutcomeReports (run t (input_in fed B) fuel) R R' r
