-- The promise of this crate: a run of the bytes of a table that was read, with the input of a block if one is given, writes the report of the language's
-- outcome of the table and the input, and answers its length and the fuel that it left. Not here: the run (RunLaws), its report (ReportLaws).
use Rattle.std.proofs.Common.{ℕ, ◌≡◌, refl, ap, ◌∙◌, Bool, true, List}
use Rattle.std.proofs.Math.Option.{some}
use Rattle.cofj.specs.Syntax.{Table}
use Rattle.cofj.specs.Values.{Graph, canon}
use Rattle.cofj.specs.Reading.{read, read_text}
use Rattle.cofj.specs.Running.{run}
use Rattle.cofj.proofs.Readable.{read_formed}
use Rattle.classes.specs.Layout.{layout}
use Rattle.canon.specs.Numbers.{Has}
use Rattle.evaluator.specs.declared.report.Reported.{Reported}
use Rattle.evaluator.specs.Main.{input_in, Given}
use Rattle.evaluator.specs.Reporting.{OutcomeReports, RunReports}

-- a block that has a value gives it, if the value is canonical, as all are that runs are given (cofj, Good)
pub has_given : (fed : Bool) (B : List ℕ) (v : Graph) → Has B 0 v → Given fed B
has_given fed B v h = record { inside = λ e. h.inside }

pub has_input : (B : List ℕ) (v : Graph) → Has B 0 v → canon v ≡ v → input_in true B ≡ some v
has_input B v h own = ap some (ap canon h.is ∙ own)

pub run_on : (s : List ℕ) (t : Table) → read_text s ≡ read t → (fuel : ℕ) (fed : Bool) (B : List ℕ) (n : ℕ) (R : List ℕ) (n' : ℕ) (R' : List ℕ) (r : Reported)
    → RunReports (layout t) fuel fed B n R n' R' r → OutcomeReports (run t (input_in fed B) fuel) R R' r
run_on s t e fuel fed B n R n' R' r h = h.is t (record { formed = read_formed s t e; bytes = refl })
