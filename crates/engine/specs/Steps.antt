-- What the parts of a call answer, by the language's definitions of the calls. Not here: the calls themselves (cofj's Calls).
use Rattle.std.specs.Prelude.{ℕ, Bool, true, false, List, ltb, Ok, Err}
use Rattle.std.specs.declared.result.Result.{Result}
use Rattle.cofj.specs.declared.Session.{Session}
use Rattle.cofj.specs.declared.Answer.{Answer}
use Rattle.cofj.specs.declared.Refusal.{Refusal}
use Rattle.cofj.specs.declared.Refusal.TheVariants.{ClosedSession, ShortReport, ShortWork}
use Rattle.cofj.specs.Refusals.{refusal_number}
use Rattle.cofj.specs.Limits.{report_size, work_size}
use Rattle.cofj.specs.Calls as calls
use Rattle.cofj.specs.Calls.{checked, trial, with_fuel, Ran}
use Rattle.classes.specs.declared.chain.FieldType.{FieldType}
use Rattle.checker.specs.Program.{check_of}
use Rattle.evaluator.specs.declared.report.Reported.{Reported}
use Rattle.engine.specs.declared.run.Mode.{Mode}
use Rattle.engine.specs.declared.run.Mode.TheVariants.{Checked, Trial}

-- an answer and both buffers after a call
abbrev pub ran : Answer → List ℕ → List ℕ → Ran
ran a report work = record { answer = a; report = report; work = work }

-- what is answered of a run's report, or of its refusal
abbrev pub answer_by : Session → Result Reported Refusal → Answer
answer_by σ (Ok r) = record { refusal = 0; session = with_fuel σ r.fuel; length = r.length }
answer_by σ (Err k) = record { refusal = refusal_number k; session = σ; length = 0 }

abbrev pub mode_of : Mode → calls.Mode
mode_of Checked = checked
mode_of Trial = trial

-- what the state refuses: whether the session is active, the report buffer short, the work buffer short
abbrev pub state_by : Bool → Bool → Bool → Result (Unit {0}) Refusal
state_by false b c = Err ClosedSession
state_by true true c = Err ShortReport
state_by true false true = Err ShortWork
state_by true false false = Ok tt

-- the same by the lengths of the buffers
unfoldable pub state_of : Bool → ℕ → ℕ → Result (Unit {0}) Refusal
state_of active report work = state_by active (ltb report report_size) (ltb work work_size)

-- what a mode asks of the table whose bytes T are: that it has types, or nothing
abbrev pub typed : Result FieldType Refusal → Result (Unit {0}) Refusal
typed (Ok u) = Ok tt
typed (Err k) = Err k

abbrev pub judged_in : Mode → List ℕ → Result (Unit {0}) Refusal
judged_in Checked T = typed (check_of T)
judged_in Trial T = Ok tt
