-- What the program `linerun` writes for its input, and the call that it makes for it. Its input is both texts, one after the other.
-- Not here: runs and checks (Calls), standard input and output.
use Rattle.std.specs.Prelude.{ℕ, suc, ◌-◌, Bool, true, false, ◌&&◌, cond, List, [], ◌∷◌, ◌++◌, eqb, length, take, drop}
use Rattle.std.proofs.Math.Option.{Option, none, some}
use Rattle.cofj.specs.declared.Shown.{Shown}
use Rattle.cofj.specs.Limits.{linerun_fuel}
use Rattle.cofj.specs.Text.{hex_text}
use Rattle.cofj.specs.Typing.{Checked, refused, accepted}
use Rattle.cofj.specs.Running.{run}
use Rattle.cofj.specs.Report.{report_of}
use Rattle.cofj.specs.Calls.{open_session, check_text, checked, Admitted, declined, admitted, admit, Call, state_refusal, zeros, Ran, run_call}

-- ---- where the input is cut: the first text ends with the first line whose characters begin `04`, the second is all that follows, whatever it looks
-- like; without such a line all is the first text
-- these characters begin `04`
abbrev pub begins04 : List ℕ → Bool
begins04 [] = false
begins04 (a ∷ []) = false
begins04 (a ∷ b ∷ s) = eqb a 0x30 && eqb b 0x34

-- how many characters there are up to and with the first LF, or in all
unfoldable pub line_length : List ℕ → ℕ
line_length [] = 0
line_length (c ∷ s) = suc (cond (eqb c 10) 0 (line_length s))

-- how many characters the first text has; `start` says that a line starts here
unfoldable pub first_length : Bool → List ℕ → ℕ
unfolding line_length
first_length start [] = 0
first_length start (c ∷ s) = elim (start && begins04 (c ∷ s)) [ true ↦ line_length (c ∷ s) | false ↦ suc (first_length (eqb c 10) s) ]

abbrev pub first_text : List ℕ → List ℕ
first_text s = take (first_length true s) s

abbrev pub second_text : List ℕ → List ℕ
second_text s = drop (first_length true s) s

-- ---- what is written: the verdict line, and after 00 the report
-- what is said of both texts: main's type, or the refusal that a checked run of them gives
abbrev pub judged_by : Checked → Admitted → Checked
judged_by c (declined k) = refused k
judged_by c (admitted t i) = c

unfoldable pub judge : List ℕ → List ℕ → Checked
unfolding check_text admit
judge s i = judged_by (check_text s) (admit checked s i)

abbrev pub verdict_line : Checked → List ℕ
verdict_line (refused k) = 8 ∷ k ∷ []
verdict_line (accepted u) = 8 ∷ 0 ∷ u.cls ∷ u.tag ∷ []

-- the report of a run with so much fuel, where the texts are admitted
abbrev pub report_admitted : Admitted → ℕ → List ℕ
report_admitted (declined k) n = []
report_admitted (admitted t i) n = report_of (run t i n)

abbrev pub verdict_text : List ℕ → List ℕ → List ℕ
verdict_text s i = hex_text (verdict_line (judge s i) ∷ [])

-- what is written for both texts
unfoldable pub shown_for : List ℕ → List ℕ → List ℕ
unfolding judge admit run
shown_for s i = verdict_text s i ++ report_admitted (admit checked s i) linerun_fuel

unfoldable pub linerun : List ℕ → List ℕ
unfolding first_length shown_for
linerun s = shown_for (first_text s) (second_text s)

-- ---- the call: 12 and 13, then the verdict line by value and the report in the lent buffer. The program writes one after the other
-- characters that go by value, filled up with zeros
abbrev pub filled_up : ℕ → List ℕ → List ℕ
filled_up n s = s ++ zeros (n - length s)

-- the characters of the longest verdict line
abbrev pub verdict_size : ℕ
verdict_size = 9

-- the checked run that is shown
abbrev pub shown_call : List ℕ → List ℕ → List ℕ → List ℕ → Call
shown_call s i report work =
    record {
      mode = checked;
      text = s;
      input = i;
      session = open_session linerun_fuel;
      report = report;
      work = work;
    }

-- a call's answer and both buffers after it
pub record Presented : Type 0 where
  pub answer : Shown
  pub report : List ℕ
  pub work : List ℕ

abbrev pub not_shown : ℕ → List ℕ → List ℕ → Presented
not_shown k report work =
    record { answer = record { refusal = k; verdict_length = 0; verdict = zeros verdict_size; length = 0 }; report = report; work = work }

-- what the checked run gave, behind its verdict line
abbrev pub presented : List ℕ → Ran → Presented
presented line x =
    record {
      answer = record { refusal = 0; verdict_length = length line; verdict = filled_up verdict_size line; length = x.answer.length };
      report = x.report;
      work = x.work;
    }

abbrev pub show_unless : Option ℕ → Call → Presented
show_unless (some k) a = not_shown k a.report a.work
show_unless none a = presented (verdict_text a.text a.input) (run_call a)

-- what a host writes after the call: the verdict line, then the report
abbrev pub written_after : Presented → List ℕ
written_after x = take x.answer.verdict_length x.answer.verdict ++ take x.answer.length x.report

-- both texts shown
unfoldable pub show_texts : List ℕ → List ℕ → List ℕ → List ℕ → Presented
unfolding state_refusal judge run_call zeros
show_texts s i report work = let a = shown_call s i report work in show_unless (state_refusal a) a

unfoldable pub show_call : List ℕ → List ℕ → List ℕ → Presented
unfolding show_texts first_length
show_call s report work = show_texts (first_text s) (second_text s) report work
