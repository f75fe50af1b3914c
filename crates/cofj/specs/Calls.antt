-- Sessions and the public calls: what each answers, and every byte of the lent buffers after it.
-- A refused call answers its number, the same session and length 0, and leaves the buffers as they were.
use Rattle.std.specs.Prelude.{ℕ, true, false, not, cond, List, [], ◌∷◌, ◌++◌, ltb, length, drop, replicate}
use Rattle.std.proofs.Math.Option.{Option, none, some}
use Rattle.cofj.specs.declared.Session.{Session}
use Rattle.cofj.specs.declared.Answer.{Answer}
use Rattle.cofj.specs.declared.Closing.{Closing}
use Rattle.cofj.specs.declared.Verdict.{Verdict}
use Rattle.cofj.specs.declared.Written.{Written}
use Rattle.cofj.specs.Limits.{standard, text_size, report_size, work_size}
use Rattle.cofj.specs.Syntax.{Table}
use Rattle.cofj.specs.Values.{Graph}
use Rattle.cofj.specs.Reading.{refusal, read, read_text}
use Rattle.cofj.specs.Writing.{Text, no_text, text, write_table}
use Rattle.cofj.specs.Classes.{chain_has, fields_to}
use Rattle.cofj.specs.Lookup.{lookup_to, method_of}
use Rattle.cofj.specs.Typing.{Checked, refused, accepted, check, method_typed, type_of, field_type, call_type, new_type, combine_type, choose_type}
use Rattle.cofj.specs.Running.{Outcome, run}
use Rattle.cofj.specs.Batch.{Input, refused as unfit, given, input_of}
use Rattle.cofj.specs.Report.{report_of, fuel_of}

-- ---- sessions
-- opened with fuel 0 to 65,535
abbrev pub open_session : ℕ → Session
open_session n = record { active = true; fuel = n }

-- the session with this fuel left, all else as it was: a run changes a session and never makes one
abbrev pub with_fuel : Session → ℕ → Session
with_fuel σ n = record { active = σ.active; fuel = n }

-- closing sets the fuel to 0; closing again is 11
abbrev pub closed_session : Session → Session
closed_session σ = record { active = false; fuel = 0 }

unfoldable pub close_session : Session → Closing
close_session σ = cond σ.active (record { refusal = 0; session = closed_session σ }) (record { refusal = 11; session = σ })

-- ---- the check of a text: 1 to 7, or main's class and tag
unfoldable pub check_text : List ℕ → Checked
unfolding read_text check method_typed type_of field_type call_type new_type combine_type choose_type chain_has fields_to lookup_to method_of
check_text s = elim (read_text s) [ refusal k ↦ refused k | read t ↦ check t ]

abbrev pub verdict_of : Checked → Verdict
verdict_of (refused k) = record { refusal = k; class = 0; tag = 0 }
verdict_of (accepted u) = record { refusal = 0; class = u.cls; tag = u.tag }

abbrev pub check_call : List ℕ → Verdict
check_call s = verdict_of (check_text s)

-- ---- runs
-- a checked run checks types first, a trial run does not
pub data Mode : Type 0 where
  checked trial : Mode

-- the table that a run evaluates and the input that it is given, or the refusal
pub data Admitted : Type 0 where
  declined : ℕ → Admitted
  admitted : Table → Option Graph → Admitted

-- an `03` main takes no second text; an empty one counts as none
abbrev pub without_input : Table → List ℕ → Admitted
without_input t [] = admitted t none
without_input t (c ∷ s) = declined 14

-- an `04` main is given the value that its second text lists
abbrev pub with_input : Table → Input → Admitted
with_input t (unfit k) = declined k
with_input t (given v) = admitted t (some v)

-- a table and the second text of its run: 14 and 15
unfoldable pub feed : Table → List ℕ → Admitted
unfolding input_of
feed t s = elim t.input [ none ↦ without_input t s | some u ↦ with_input t (input_of standard.objects t.classes u s) ]

-- the input that is given, if any
abbrev pub input_in : Admitted → Option Graph
input_in (declined k) = none
input_in (admitted t i) = i

abbrev pub after_check : Table → List ℕ → Checked → Admitted
after_check t s (refused k) = declined k
after_check t s (accepted u) = feed t s

abbrev pub admit_table : Mode → Table → List ℕ → Admitted
admit_table checked t s = after_check t s (check t)
admit_table trial t s = feed t s

-- the text of a program and the second text: 1 to 7, then 14 and 15; a trial never gives 6 or 7
unfoldable pub admit : Mode → List ℕ → List ℕ → Admitted
unfolding read_text check method_typed type_of field_type call_type new_type combine_type choose_type chain_has fields_to lookup_to method_of feed
admit m s i = elim (read_text s) [ refusal k ↦ declined k | read t ↦ admit_table m t i ]

-- a call of a run: its texts, its state and the buffers that it lends
pub record Call : Type 0 where
  pub mode : Mode
  pub text : List ℕ
  -- the second text
  pub input : List ℕ
  pub session : Session
  pub report : List ℕ
  pub work : List ℕ

-- state refusals, before the texts are looked at
unfoldable pub state_refusal : Call → Option ℕ
state_refusal a =
    cond (not a.session.active) (some 11)
    (cond (ltb (length a.report) report_size) (some 12)
    (cond (ltb (length a.work) work_size) (some 13)
    none))

-- bytes after the text stay
unfoldable pub over : List ℕ → List ℕ → List ℕ
over s buffer = s ++ drop (length s) buffer

-- n zero bytes; shut, so that no comparison writes them out
unfoldable pub zeros : ℕ → List ℕ
zeros n = replicate n 0

-- the first bytes are zero after a run, the rest stay
unfoldable pub cleared : List ℕ → List ℕ
cleared work = zeros work_size ++ drop work_size work

-- a call's answer and both buffers after it
pub record Ran : Type 0 where
  pub answer : Answer
  pub report : List ℕ
  pub work : List ℕ

-- refused: the number, the same session, length 0, both buffers as they were
abbrev pub turned_away : ℕ → Call → Ran
turned_away k a = record { answer = record { refusal = k; session = a.session; length = 0 }; report = a.report; work = a.work }

-- accepted: the report of the outcome, and its fuel left in the session
abbrev pub ended : Outcome Graph → Call → Ran
ended o a =
    record {
      answer = record { refusal = 0; session = with_fuel a.session (fuel_of o); length = length (report_of o) };
      report = over (report_of o) a.report;
      work = cleared a.work;
    }

abbrev pub run_admitted : Admitted → Call → Ran
run_admitted (declined k) a = turned_away k a
run_admitted (admitted t i) a = ended (run t i a.session.fuel) a

abbrev pub run_unless : Option ℕ → Call → Ran
run_unless (some k) a = turned_away k a
run_unless none a = run_admitted (admit a.mode a.text a.input) a

-- the checked run and the trial run
unfoldable pub run_call : Call → Ran
unfolding state_refusal admit run over cleared
run_call a = run_unless (state_refusal a) a

-- ---- the writer: 8, then 9; bytes after the text stay
pub record Wrote : Type 0 where
  pub answer : Written
  pub buffer : List ℕ

abbrev pub not_written : ℕ → List ℕ → Wrote
not_written k buffer = record { answer = record { refusal = k; length = 0 }; buffer = buffer }

abbrev pub written : List ℕ → List ℕ → Wrote
written s buffer = record { answer = record { refusal = 0; length = length s }; buffer = over s buffer }

abbrev pub wrote : Text → List ℕ → Wrote
wrote no_text buffer = not_written 8 buffer
wrote (text s) buffer = elim (ltb (length buffer) text_size) [ true ↦ not_written 9 buffer | false ↦ written s buffer ]

unfoldable pub write_call : Table → List ℕ → Wrote
unfolding write_table over
write_call t buffer = wrote (write_table t) buffer
