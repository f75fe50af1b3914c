-- Laws of a run of a text.
use Rattle.std.proofs.Common.{ℕ, ◌≤◌, ◌≡◌, refl, sym, ap, ◌∙◌, Bool, List, ◌++◌, length, take, drop, Ok, Err}
use Rattle.std.specs.declared.result.Result.{Result}
use Rattle.cofj.specs.declared.Refusal.{Refusal}
use Rattle.cofj.specs.declared.Session.{Session}
use Rattle.cofj.specs.Refusals.{refusal_number}
use Rattle.cofj.specs.Limits.{work_size}
use Rattle.cofj.specs.Syntax.{Table}
use Rattle.cofj.specs.Typing as language
use Rattle.cofj.specs.Calls.{with_fuel, cleared, Ran, Admitted, declined, admitted, feed, after_check, admit_table, admit, run_admitted, run_call}
use Rattle.cofj.proofs.Readable.{read_formed}
use Rattle.cofj.proofs.RunCalls.{admit_unread, admit_read}
use Rattle.classes.specs.declared.chain.FieldType.{FieldType}
use Rattle.classes.specs.Layout.{Tabled}
use Rattle.tables.specs.Readings.{reading_of, Into}
use Rattle.tables.proofs.Written.{answer-table, answer_refusal}
use Rattle.checker.specs.Program.{check_of}
use Rattle.checker.specs.Answers.{answer_of}
use Rattle.checker.proofs.Programs.{formed_check}
use Rattle.batch.specs.Inputs.{SomeTable}
use Rattle.evaluator.specs.declared.report.Reported.{Reported}
use Rattle.evaluator.specs.Main.{Given, input_in}
use Rattle.evaluator.specs.Reporting.{RunReports}
use Rattle.engine.specs.declared.run.Mode as code
use Rattle.engine.specs.declared.run.Mode.TheVariants as modes
use Rattle.engine.specs.Steps.{ran, answer_by, mode_of, state_of, typed, judged_in}
use Rattle.engine.specs.Feeding.{fed_with, TextFed}
use Rattle.engine.proofs.StateLaws.{call, state_admits}
use Rattle.engine.proofs.WorkLaws.{cleared-part}

-- ---- what is fed
pub given : (T i B : List ℕ) (f : Result Bool Refusal) (fed : Bool) → TextFed T i B f → f ≡ Ok fed → Given fed B
given T i B f fed h e = record { inside = λ q. h.inside (e ∙ ap Ok q) }

-- ---- the types that a mode asks for
no_type : (r : Result FieldType Refusal) (k : Refusal) → typed r ≡ Err k → answer_of r ≡ language.refused (refusal_number k)
no_type (Ok u) k e = cc
no_type (Err j) k e = ap (λ (x : Refusal). language.refused (refusal_number x)) (let q : j ≡ k = cc in q)

some_type : (r : Result FieldType Refusal) (t : Table) (i : List ℕ) → typed r ≡ Ok tt → after_check t i (answer_of r) ≡ feed t i
some_type (Ok u) t i e = refl
some_type (Err j) t i e = cc

module _ (T i : List ℕ) (t : Table) (h : Tabled T t) where
  -- the check of the bytes is the language's
  checks_on : answer_of (check_of T) ≡ language.check t
  checks_on = ap (λ (B : List ℕ). answer_of (check_of B)) h.bytes ∙ formed_check t h.formed

  mode_refuses : (c : code.Mode) (k : Refusal) → judged_in c T ≡ Err k → admit_table (mode_of c) t i ≡ declined (refusal_number k)
  mode_refuses modes.Checked k e = ap (after_check t i) (sym checks_on ∙ no_type (check_of T) k e)
  mode_refuses modes.Trial k e = cc

  mode_feeds : (c : code.Mode) → judged_in c T ≡ Ok tt → admit_table (mode_of c) t i ≡ feed t i
  mode_feeds modes.Checked e = ap (after_check t i) (sym checks_on) ∙ some_type (check_of T) t i e
  mode_feeds modes.Trial e = refl

-- ---- a run whose state refuses nothing, of a text that reads into B
module _ (c : code.Mode) (s i : List ℕ) (σ : Session) (R W : List ℕ) (ready : state_of σ.active (length R) (length W) ≡ Ok tt) (x : Result (Unit {0}) Refusal) (B : List ℕ)
    (e : Into (reading_of s) x B) where
  admits : (o : Admitted) (y : Ran) → admit (mode_of c) s i ≡ o → y ≡ run_admitted o (call (mode_of c) s i σ R W) → y ≡ run_call (call (mode_of c) s i σ R W)
  admits o y q p = state_admits (mode_of c) s i σ R W _ refl y ready (p ∙ sym (ap (λ (z : Admitted). run_admitted z (call (mode_of c) s i σ R W)) q))

  declines : (k : Refusal) → admit (mode_of c) s i ≡ declined (refusal_number k) → ran (answer_by σ (Err k)) R W ≡ run_call (call (mode_of c) s i σ R W)
  declines k q = admits (declined (refusal_number k)) (ran (answer_by σ (Err k)) R W) q refl

  pub run_unread : (k : Refusal) → x ≡ Err k → ran (answer_by σ (Err k)) R W ≡ run_call (call (mode_of c) s i σ R W)
  run_unread k q = declines k (admit_unread (mode_of c) s i (refusal_number k) (answer_refusal s x B e k q))

  module _ (zx : x ≡ Ok tt) where
    -- its bytes are a table's
    abbrev t : Table
    t = (answer-table s x B e zx).whole

    tabled : Tabled B t
    tabled = let a = answer-table s x B e zx in record { formed = read_formed s a.whole a.reads; bytes = a.bytes }

    pub some_table : SomeTable B
    some_table = record { table = t; bytes = tabled }

    read_in : admit (mode_of c) s i ≡ admit_table (mode_of c) t i
    read_in = admit_read (mode_of c) s i t (answer-table s x B e zx).reads

    module _ (j : Result (Unit {0}) Refusal) (ej : j ≡ judged_in c B) where
      pub run_untyped : (k : Refusal) → j ≡ Err k → ran (answer_by σ (Err k)) R W ≡ run_call (call (mode_of c) s i σ R W)
      run_untyped k q = declines k (read_in ∙ mode_refuses B i t tabled c k (sym ej ∙ q))

      module _ (zj : j ≡ Ok tt) (D : List ℕ) (f : Result Bool Refusal) (ef : TextFed B i D f) where
        fed_in : (h : Result Bool Refusal) → f ≡ h → admit (mode_of c) s i ≡ fed_with t D h
        fed_in h q = read_in ∙ mode_feeds B i t tabled c (sym ej ∙ zj) ∙ ef.is t tabled ∙ ap (fed_with t D) q

        pub run_unfed : (k : Refusal) → f ≡ Err k → ran (answer_by σ (Err k)) R W ≡ run_call (call (mode_of c) s i σ R W)
        run_unfed k q = declines k (fed_in (Err k) q)

        -- main has run: X is what it left of the first work bytes
        pub run_ran : (fed : Bool) (R' X W' : List ℕ) (r : Reported) → f ≡ Ok fed → work_size ≤ length W → RunReports B σ.fuel fed D (length (take work_size W)) R (length X) R' r
            → W' ≡ cleared (X ++ drop work_size W) → ran (answer_by σ (Ok r)) R' W' ≡ run_call (call (mode_of c) s i σ R W)
        run_ran fed R' X W' r q h y w =
            let o = y.is t tabled in
            let count = o.count in
            let text = o.text in
            let left = ap (with_fuel σ) o.left in
            let work = w ∙ cleared-part W X y.same h in
            admits (admitted t (input_in fed D)) (ran (answer_by σ (Ok r)) R' W') (fed_in (Ok fed) q)
            (λ j. ran (record { refusal = 0; session = left j; length = count j }) (text j) (work j))
