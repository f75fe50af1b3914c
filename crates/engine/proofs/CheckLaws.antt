-- Laws of the check of a text.
use Rattle.std.proofs.Common.{ℕ, ◌≡◌, sym, ap, ◌∙◌, List, Ok, Err}
use Rattle.std.specs.declared.result.Result.{Result}
use Rattle.cofj.specs.declared.Refusal.{Refusal}
use Rattle.cofj.specs.Refusals.{refusal_number}
use Rattle.cofj.specs.Calls as calls
use Rattle.cofj.specs.Calls.{check_call}
use Rattle.cofj.proofs.ReadCalls.{check_unread}
use Rattle.classes.specs.declared.chain.FieldType.{FieldType}
use Rattle.tables.specs.Readings.{reading_of, Into}
use Rattle.tables.proofs.Written.{answer-table, answer_refusal}
use Rattle.checker.specs.Program.{check_of}
use Rattle.checker.specs.Answers.{verdict_of}
use Rattle.checker.proofs.Check.{verdict_on}

module _ (s : List ℕ) (x : Result (Unit {0}) Refusal) (B : List ℕ) (e : Into (reading_of s) x B) where
  pub text_refused : (k : Refusal) → x ≡ Err k → verdict_of (Err k) ≡ check_call s
  text_refused k q = sym (ap calls.verdict_of (check_unread s (refusal_number k) (answer_refusal s x B e k q)))

  pub text_checked : (r : Result FieldType Refusal) → x ≡ Ok tt → r ≡ check_of B → verdict_of r ≡ check_call s
  text_checked r z q =
      let t = answer-table s x B e z in
      ap verdict_of q ∙ ap (λ (C : List ℕ). verdict_of (check_of C)) t.bytes ∙ verdict_on s t.whole t.reads
