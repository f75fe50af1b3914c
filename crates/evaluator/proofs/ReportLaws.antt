-- Laws of the report of a run, written to the front of a lent buffer.
use Rattle.std.proofs.Common.{ℕ, ◌+◌, ◌<◌, ◌≤◌, arith, ◌≡◌, refl, ◌∙◌, subst, Bool, List, [], ◌∷◌, length, set, drop}
use Rattle.cofj.specs.Limits.{report_size}
use Rattle.cofj.specs.Values.{Graph}
use Rattle.cofj.specs.Running.{stopped}
use Rattle.cofj.specs.Report.{report_of}
use Rattle.cofj.specs.Calls.{over}
use Rattle.cofj.proofs.RunCalls.{run-standard}
use Rattle.values.specs.Layout.{value_of, Holds}
use Rattle.values.specs.Reporting as values
use Rattle.evaluator.specs.Figures.{main_block}
use Rattle.evaluator.specs.declared.Stop.{Stop}
use Rattle.evaluator.specs.declared.Stop.TheVariants.{Stuck, NoFuel, TooDeep, TooLarge, Overflow}
use Rattle.evaluator.specs.declared.report.Reported.{Reported}
use Rattle.std.specs.declared.result.Result.TheVariants.{Ok, Err}
use Rattle.evaluator.specs.declared.Evaluated.{Evaluated}
use Rattle.evaluator.specs.Answers.{Done, out_with, Out, stop_of, out_in, OutOlder}
use Rattle.evaluator.specs.Main.{input_in, Runs}
use Rattle.evaluator.specs.Reporting.{stop_number, StopReports, OutcomeReports, RunReports}

-- ---- a run that stopped
five : (R : List ℕ) (a b c d e : ℕ) → report_size ≤ length R → set (set (set (set (set R 0 a) 1 b) 2 c) 3 d) 4 e ≡ a ∷ b ∷ c ∷ d ∷ e ∷ drop 5 R
five [] a b c d e h = absurd (omega arith)
five (x ∷ []) a b c d e h = absurd (omega arith)
five (x ∷ (y ∷ [])) a b c d e h = absurd (omega arith)
five (x ∷ (y ∷ (z ∷ []))) a b c d e h = absurd (omega arith)
five (x ∷ (y ∷ (z ∷ (v ∷ [])))) a b c d e h = absurd (omega arith)
five (x ∷ (y ∷ (z ∷ (v ∷ (w ∷ R))))) a b c d e h = refl

-- the character of the digit 0
abbrev digit_char : ℕ
digit_char = 48

stop_text : (s : Stop) (n : ℕ) (R : List ℕ) → digit_char ∷ (digit_char + 7) ∷ digit_char ∷ (digit_char + stop_number s) ∷ 10 ∷ drop 5 R ≡ over (report_of (stopped (stop_of s) n)) R
unfolding over
stop_text Stuck n R = refl
stop_text NoFuel n R = refl
stop_text TooDeep n R = refl
stop_text TooLarge n R = refl
stop_text Overflow n R = refl

stop_small : (s : Stop) → stop_number s ≤ 5
stop_small Stuck = omega arith
stop_small NoFuel = omega arith
stop_small TooDeep = omega arith
stop_small TooLarge = omega arith
stop_small Overflow = omega arith

pub stop_byte_lem : (s : Stop) (k : ℕ) → k ≡ stop_number s → digit_char + k < 256
stop_byte_lem s k e = omega (arith, stop_small s, e)

pub stop_written : (s : Stop) (R : List ℕ) (k : ℕ) → report_size ≤ length R → k ≡ stop_number s
    → StopReports s R (set (set (set (set (set R 0 digit_char) 1 (digit_char + 7)) 2 digit_char) 3 (digit_char + k)) 4 10)
stop_written s R k h e = record { text = λ n. five R digit_char (digit_char + 7) digit_char (digit_char + k) 10 h ∙ rw e (stop_text s n R) }

stop_length : (s : Stop) (n : ℕ) → 5 ≡ length (report_of (stopped (stop_of s) n))
stop_length Stuck n = refl
stop_length NoFuel n = refl
stop_length TooDeep n = refl
stop_length TooLarge n = refl
stop_length Overflow n = refl

pub outcome_halt : (W : List ℕ) (o : Done) (s : Stop) (fuel : ℕ) (R R' : List ℕ) → o ≡ Err s → StopReports s R R'
    → OutcomeReports (out_in W (out_with fuel o)) R R' (record { length = 5; fuel = fuel })
outcome_halt W o s fuel R R' e w = rw e (record { count = stop_length s fuel; left = refl; text = w.text fuel })

-- ---- a run that ended in a value
pub value_held : (W : List ℕ) (o : Done) (got : Evaluated) (fuel : ℕ) → OutOlder W (main_block + 1) (out_with fuel o) → o ≡ Ok got → Holds W got.value
value_held W o got fuel h e = (rw e at h).held

pub value_length : (v : Graph) (R R' : List ℕ) (t : ℕ) → values.Reported v R R' t → t < 65536
value_length v R R' t h = omega (arith, h.fits)

pub outcome_value : (W : List ℕ) (o : Done) (got : Evaluated) (fuel : ℕ) (R R' : List ℕ) (t : ℕ) → o ≡ Ok got → values.Reported (value_of W got.value) R R' t
    → OutcomeReports (out_in W (out_with fuel o)) R R' (record { length = t; fuel = fuel })
unfolding over
outcome_value W o got fuel R R' t e h = rw e (record { count = h.count; left = refl; text = h.text })

-- ---- both
pub run_reports : (T W W' X : List ℕ) (fuel : ℕ) (fed : Bool) (B R R' : List ℕ) (o : Out) (r : Reported) → Runs T W fuel fed B W' o
    → OutcomeReports (out_in W' o) R R' r × (length X ≡ length W') → RunReports T fuel fed B (length W) R (length X) R' r
run_reports T W W' X fuel fed B R R' o r x w = record {
  same = w.1 ∙ x.same;
  is = λ t h. subst (λ y. OutcomeReports y R R' r) (x.is t h ∙ run-standard t (input_in fed B) fuel) w.0;
}
