-- The shams of document 01 and of request 2026-01, refuted: a function that meets the contract of a public call does not answer as the sham does.
-- Each by a call that the sham would answer otherwise. The table of them, with the edits of the code, is docs/SHAMS.md.
use Rattle.std.proofs.Common.{ℕ, ◌-◌, ◌<◌, arith, ◌≡◌, refl, sym, ap, ◌∙◌, false, List, [], length, get_or}
use Prim.Native.String.{String}
use Rattle.std.proofs.Math.Bool.{false≢true}
use Rattle.std.proofs.Math.ListN.{length-replicate}
use Rattle.cofj.specs.declared.Session.{Session}
use Rattle.cofj.specs.declared.Closing.{Closing}
use Rattle.cofj.specs.declared.Verdict.{Verdict}
use Rattle.cofj.specs.Bytes.{bytes}
use Rattle.cofj.specs.Limits.{report_size, work_size}
use Rattle.cofj.specs.Rows.{row_a, row_f, row_i}
use Rattle.cofj.specs.RequestRows.{row_ring_cut, row_ring, row_untyped, row_plus_trial}
use Rattle.cofj.specs.Values.{Graph}
use Rattle.cofj.specs.Running.{Outcome, value, stopped, run}
use Rattle.cofj.specs.Report.{report_of}
use Rattle.cofj.specs.Calls.{Mode, checked, trial, open_session, close_session, zeros, Call, Ran, Admitted, declined, admitted, admit, ended, run_admitted, run_call, check_text, check_call}
use Rattle.cofj.specs.Show.{report_admitted, linerun}
use Rattle.cofj.specs.Promises.{report_text, Lent}
use Rattle.cofj.proofs.RunCalls.{refusals, by_text, ends_in_lem}

-- a call with buffers just long enough, with a second text and without
abbrev pub calling_with : Mode → String → String → ℕ → Call
calling_with m s i n = record { mode = m; text = bytes s; input = bytes i; session = open_session n; report = zeros report_size; work = zeros work_size }

abbrev pub calling : Mode → String → ℕ → Call
calling m s n = calling_with m s "" n

zeros-length : (n : ℕ) → length (zeros n) ≡ n
unfolding zeros
zeros-length n = length-replicate n 0

admitted_text : (x : Admitted) (a : Call) → report_text (run_admitted x a) ≡ report_admitted x a.session.fuel
admitted_text (declined k) a = refl
admitted_text (admitted t i) a = (ends_in_lem (run t i a.session.fuel) a (ended (run t i a.session.fuel) a) refl).report

lent : (m : Mode) (s i : String) (n : ℕ) → Lent (calling_with m s i n)
lent m s i n = record { active = refl; report = omega (arith, zeros-length report_size); work = omega (arith, zeros-length work_size) }

-- what both texts are admitted as
abbrev pub admits : Mode → String → String → Admitted
admits m s i = admit m (bytes s) (bytes i)

-- what such a call answers, and reports
pub ran_as : (m : Mode) (s i : String) (n : ℕ) → run_call (calling_with m s i n) ≡ run_admitted (admits m s i) (calling_with m s i n)
ran_as m s i n = by_text (calling_with m s i n) (admits m s i) (lent m s i n) refl

reports : (m : Mode) (s i : String) (n : ℕ) → report_text (run_call (calling_with m s i n)) ≡ report_admitted (admits m s i) n
reports m s i n = ap report_text (ran_as m s i n) ∙ admitted_text (admits m s i) (calling_with m s i n)

-- ---- the calls
-- case A
abbrev text_a : String
text_a = row_a.text

-- the ring of case I
abbrev text_i : String
text_i = row_i.text

-- a pair whose first value is one call, and whose second is an Object or an object of class 2
abbrev text_p : String
text_p = "0101000200030003\n01020000\n0202010000000000450000450000\n03450102440100450200450000\n"

abbrev text_q : String
text_q = "0101000200030003\n01020000\n0202010000000000450000450000\n03450102440100450200450200\n"

-- a new Object: no call at all
abbrev text_o : String
text_o = "03450000\n"

-- m of class 1 calls n of class 2, which calls m again, whose right side is `this`: the object of class 1, and not the caller's
abbrev text_f : String
text_f = "01010000\n01020000\n02010101000100004402014502004040\n0202020100010001010044010042004200\n03440100450100\n"

-- m(x) is new D(this.m(new C())) on the left and x on the right: for another x it is D(D(C))
abbrev text_m : String
text_m = "01010000\n01020000\n010300010003\n02010100000000010000450301440101404502004200\n03440101450100450100\n"

-- case F
abbrev text_u : String
text_u = row_f.text

-- a call whose report buffer is a byte too short
abbrev short : String → Call
short s = record { mode = checked; text = bytes s; input = []; session = open_session 0; report = zeros (report_size - 1); work = zeros work_size }

checks_a : check_call (bytes text_a) ≡ record { refusal = 0; class = 1; tag = 3 }
unfolding check_text bytes
checks_a = refl

report_a : report_admitted (admits checked text_a "") 3 ≡ bytes "0500010100\n"
unfolding admit run bytes
report_a = refl

report_a_2 : report_admitted (admits checked text_a "") 2 ≡ bytes "0702\n"
unfolding admit run bytes
report_a_2 = refl

report_i : report_admitted (admits checked text_i "") 3 ≡ bytes "0500030101\n0501050100\n"
unfolding admit run bytes
report_i = refl

report_p : report_admitted (admits checked text_p "") 1 ≡ bytes "050001020101\n05010000\n"
unfolding admit run bytes
report_p = refl

report_q : report_admitted (admits checked text_q "") 1 ≡ bytes "050001020102\n05010000\n05020200\n"
unfolding admit run bytes
report_q = refl

report_o : report_admitted (admits checked text_o "") 0 ≡ bytes "05000000\n"
unfolding admit run bytes
report_o = refl

report_f : report_admitted (admits checked text_f "") 3 ≡ bytes "05000100\n"
unfolding admit run bytes
report_f = refl

report_m : report_admitted (admits checked text_m "") 3 ≡ bytes "0500030101\n0501030102\n05020200\n"
unfolding admit run bytes
report_m = refl

-- example a of request 2026-01, a ring cut as four parts, and example b, the same ring cut as two
report_cut : report_admitted (admits checked row_ring_cut.text row_ring_cut.input) 0 ≡ bytes "0500030101\n0501020100\n"
unfolding admit run bytes
report_cut = refl

report_ring : report_admitted (admits checked row_ring.text row_ring.input) 0 ≡ bytes "0500030101\n0501020100\n"
unfolding admit run bytes
report_ring = refl

-- ---- a checker that refuses every program
pub refuses_all : (f : List ℕ → Verdict) → ((s : List ℕ) → f s ≡ check_call s) → ((s : List ℕ) → (f s).refusal ≡ 0 → ⊥) → ⊥
refuses_all f meets sham = sham (bytes text_a) (ap (λ (v : Verdict). v.refusal) (meets (bytes text_a) ∙ checks_a))

-- ---- runs
-- texts that differ in the character at a place are not equal
pub apart : (k : ℕ) (s t : List ℕ) → (get_or s k 0 ≡ get_or t k 0 → ⊥) → s ≡ t → ⊥
apart k s t n e = n (ap (λ (x : List ℕ). get_or x k 0) e)

-- the report of every stop as it should be, and the text r for every value
abbrev pub fixed : List ℕ → Outcome Graph → List ℕ
fixed r (value v n) = r
fixed r (stopped l n) = report_of (stopped l n)

abbrev pub fixed_for : List ℕ → Admitted → ℕ → List ℕ
fixed_for r (declined k) n = []
fixed_for r (admitted t i) n = fixed r (run t i n)

fixed_a : (r : List ℕ) → fixed_for r (admits checked text_a "") 3 ≡ r
unfolding admit run bytes
fixed_a r = refl

fixed_i : (r : List ℕ) → fixed_for r (admits checked text_i "") 3 ≡ r
unfolding admit run bytes
fixed_i r = refl

module _ (f : Call → Ran) (meets : (a : Call) → f a ≡ run_call a) where
  says_with : (m : Mode) (s i : String) (n : ℕ) (r : List ℕ) → report_admitted (admits m s i) n ≡ r → report_text (f (calling_with m s i n)) ≡ r
  says_with m s i n r e = ap report_text (meets (calling_with m s i n)) ∙ reports m s i n ∙ e

  pub says : (m : Mode) (s : String) (n : ℕ) (r : List ℕ) → report_admitted (admits m s "") n ≡ r → report_text (f (calling m s n)) ≡ r
  says m s n r e = says_with m s "" n r e

  -- every report is `0702`, or one fixed ring, or empty
  pub one_report : (r : List ℕ) → ((m : Mode) (s : String) (n : ℕ) → report_text (f (calling m s n)) ≡ r) → ⊥
  unfolding bytes
  one_report r sham =
      apart 5 (bytes "0500010100\n") (bytes "0500030101\n0501050100\n") (λ z. omega arith)
      (sym (says checked text_a 3 _ report_a) ∙ sham checked text_a 3 ∙ sym (sham checked text_i 3) ∙ says checked text_i 3 _ report_i)

  -- every value is one fixed ring, though every stop is reported as it should be
  pub one_value : (r : List ℕ) → ((m : Mode) (s : String) (n : ℕ) → report_text (f (calling m s n)) ≡ fixed_for r (admits m s "") n) → ⊥
  unfolding bytes
  one_value r sham =
      apart 5 (bytes "0500010100\n") (bytes "0500030101\n0501050100\n") (λ z. omega arith)
      (sym (says checked text_a 3 _ report_a) ∙ sham checked text_a 3 ∙ fixed_a r ∙ sym (sham checked text_i 3 ∙ fixed_i r) ∙ says checked text_i 3 _ report_i)

  -- main's first call is evaluated and the rest invented: the report is the same whatever follows that call
  pub first_call_only : report_text (f (calling checked text_p 1)) ≡ report_text (f (calling checked text_q 1)) → ⊥
  unfolding bytes
  first_call_only sham =
      apart 11 (bytes "050001020101\n05010000\n") (bytes "050001020102\n05010000\n05020200\n") (λ z. omega arith)
      (sym (says checked text_p 1 _ report_p) ∙ sham ∙ says checked text_q 1 _ report_q)

  -- fuel is drawn at a figure of its own: the session's makes no difference
  pub own_fuel : report_text (f (calling checked text_a 3)) ≡ report_text (f (calling checked text_a 2)) → ⊥
  unfolding bytes
  own_fuel sham =
      apart 1 (bytes "0500010100\n") (bytes "0702\n") (λ z. omega arith)
      (sym (says checked text_a 3 _ report_a) ∙ sham ∙ says checked text_a 2 _ report_a_2)

  -- `0703` before a call is open
  pub deep_at_once : report_text (f (calling checked text_o 0)) ≡ bytes "0703\n" → ⊥
  unfolding bytes
  deep_at_once sham = apart 1 (bytes "05000000\n") (bytes "0703\n") (λ z. omega arith) (sym (says checked text_o 0 _ report_o) ∙ sham)

  -- the right side is evaluated in the caller's frame
  pub callers_frame : report_text (f (calling checked text_f 3)) ≡ bytes "05000200\n" → ⊥
  unfolding bytes
  callers_frame sham = apart 5 (bytes "05000100\n") (bytes "05000200\n") (λ z. omega arith) (sym (says checked text_f 3 _ report_f) ∙ sham)

  -- calls are compared without their arguments: the second call is met again, and its argument is the value
  pub arguments_forgotten : report_text (f (calling checked text_m 3)) ≡ bytes "0500030101\n05010200\n" → ⊥
  unfolding bytes
  arguments_forgotten sham =
      apart 16 (bytes "0500030101\n0501030102\n05020200\n") (bytes "0500030101\n05010200\n") (λ z. omega arith) (sym (says checked text_m 3 _ report_m) ∙ sham)

  -- a trial run checks types: case F, whose method k has none
  pub trial_checks : (f (calling trial text_u 9)).answer.refusal ≡ 6 → ⊥
  unfolding admit bytes
  trial_checks sham =
      let e : (f (calling trial text_u 9)).answer.refusal ≡ 0 = ap (λ (r : Ran). r.answer.refusal) (meets (calling trial text_u 9) ∙ ran_as trial text_u "" 9) in
      omega (arith, e, sham)

  -- the parts of a second text are kept as they are cut: examples a and b differ
  pub kept_as_cut : (report_text (f (calling_with checked row_ring_cut.text row_ring_cut.input 0)) ≡ report_text (f (calling_with checked row_ring.text row_ring.input 0)) → ⊥) → ⊥
  kept_as_cut sham = sham (says_with checked row_ring_cut.text row_ring_cut.input 0 _ report_cut ∙ sym (says_with checked row_ring.text row_ring.input 0 _ report_ring))

  -- 14 and 15 are for checked runs only: example i, on trial, and the second half of example d
  pub trial_unfed : (f (calling trial row_untyped.text 9)).answer.refusal ≡ 0 → ⊥
  unfolding admit bytes
  trial_unfed sham =
      let e : (f (calling trial row_untyped.text 9)).answer.refusal ≡ 14 = ap (λ (r : Ran). r.answer.refusal) (meets (calling trial row_untyped.text 9) ∙ ran_as trial row_untyped.text "" 9) in
      omega (arith, e, sham)

  pub trial_unfit : (f (calling_with trial row_plus_trial.text row_plus_trial.input 9)).answer.refusal ≡ 0 → ⊥
  unfolding admit bytes
  trial_unfit sham =
      let e : (f (calling_with trial row_plus_trial.text row_plus_trial.input 9)).answer.refusal ≡ 15 =
      ap (λ (r : Ran). r.answer.refusal) (meets (calling_with trial row_plus_trial.text row_plus_trial.input 9) ∙ ran_as trial row_plus_trial.text row_plus_trial.input 9) in
      omega (arith, e, sham)

  -- a report buffer one byte too short is taken
  pub short_report_lem : (f (short text_o)).answer.refusal ≡ 0 → ⊥
  short_report_lem sham =
      let h : length (zeros (report_size - 1)) < report_size = let l = zeros-length (report_size - 1) in omega arith in
      let e : (f (short text_o)).answer.refusal ≡ 12 = ap (λ (r : Ran). r.answer.refusal) (meets (short text_o) ∙ (refusals (short text_o)).short_report refl h) in
      omega (arith, e, sham)

-- ---- sessions
module _ (f : ℕ → Session) (meets : (n : ℕ) → f n ≡ open_session n) where
  -- a session is opened closed
  pub opened_closed : (n : ℕ) → (f n).active ≡ false → ⊥
  opened_closed n sham = false≢true (sym sham ∙ ap (λ (σ : Session). σ.active) (meets n))

  -- or without the fuel asked for
  pub opened_empty : (f 3).fuel ≡ 0 → ⊥
  opened_empty sham = let e : (f 3).fuel ≡ 3 = ap (λ (σ : Session). σ.fuel) (meets 3) in omega (arith, e, sham)

module _ (f : Session → Closing) (meets : (σ : Session) → f σ ≡ close_session σ) where
  -- closing a closed session is accepted
  pub closed_twice : (f (f (open_session 3)).session).refusal ≡ 0 → ⊥
  unfolding close_session
  closed_twice sham =
      let e : (f (f (open_session 3)).session).refusal ≡ 11 = ap (λ (σ : Session). (f σ).refusal) (ap (λ (c : Closing). c.session) (meets (open_session 3))) ∙ ap (λ (c : Closing). c.refusal) (meets _) in
      omega (arith, e, sham)

  -- a closed session keeps its fuel
  pub closed_with_fuel : (f (open_session 3)).session.fuel ≡ 3 → ⊥
  unfolding close_session
  closed_with_fuel sham = let e : (f (open_session 3)).session.fuel ≡ 0 = ap (λ (c : Closing). c.session.fuel) (meets (open_session 3)) in omega (arith, e, sham)

-- ---- `linerun`
-- the verdict is the check's alone: a program that is accepted, with a second text that it does not take
pub verdict_of_the_check : (f : List ℕ → List ℕ) → ((s : List ℕ) → f s ≡ linerun s) → get_or (f (bytes "0400004200\n03450000\n")) 3 0 ≡ get_or (bytes "0800") 3 0 → ⊥
unfolding linerun bytes
verdict_of_the_check f meets sham =
    let e : get_or (f (bytes "0400004200\n03450000\n")) 3 0 ≡ get_or (bytes "080E") 3 0 = ap (λ (s : List ℕ). get_or s 3 0) (meets (bytes "0400004200\n03450000\n")) in
    omega (arith, e, sham)

-- a verdict line of another kind
pub other_verdict : (f : List ℕ → List ℕ) → ((s : List ℕ) → f s ≡ linerun s) → get_or (f []) 1 0 ≡ get_or (bytes "09") 1 0 → ⊥
unfolding linerun bytes
other_verdict f meets sham = let e : get_or (f []) 1 0 ≡ get_or (bytes "08") 1 0 = ap (λ (s : List ℕ). get_or s 1 0) (meets []) in omega (arith, e, sham)
