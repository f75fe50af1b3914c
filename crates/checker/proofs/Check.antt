-- The promises of this crate, read this first: on the bytes of a table that was read, the type of an expression and the check are the language's.
-- The code's contracts say that it computes `type_in` and `check_of`; these say what those are.
use Rattle.std.proofs.Common.{ℕ, ◌+◌, ◌≡◌, refl, sym, ap, ◌∙◌, Bool, true, List, length, Ok, Err}
use Rattle.std.specs.declared.result.Result.{Result}
use Rattle.cofj.specs.declared.Refusal.{Refusal}
use Rattle.cofj.specs.Syntax.{Expr, Table}
use Rattle.cofj.specs.Typing as language
use Rattle.cofj.specs.Typing.{Env, type_of, check}
use Rattle.cofj.specs.Tables.{expr_known}
use Rattle.cofj.specs.Reading.{Answer, refusal, read, read_text}
use Rattle.cofj.specs.Calls as calls
use Rattle.cofj.specs.Writing.{code_of}
use Rattle.cofj.specs.Nesting.{Nested}
use Rattle.cofj.proofs.Readable.{read_formed}
use Rattle.classes.specs.declared.chain.FieldType.{FieldType}
use Rattle.classes.specs.Layout.{layout, Stands}
use Rattle.checker.specs.declared.scope.Scope.{Scope}
use Rattle.checker.specs.Machine.{type_in}
use Rattle.checker.specs.Program.{check_of}
use Rattle.checker.specs.Answers.{typed_at, answer_of, verdict_of}
use Rattle.checker.proofs.Apart.{said_of, said_again}
use Rattle.checker.proofs.Expressions.{Agree, types_on}
use Rattle.checker.proofs.Programs.{formed_check}

module _ (s : List ℕ) (t : Table) (reads : read_text s ≡ read t) where
  -- an expression nested at most `left` deep, of known classes, whose bytes stand at `at`
  pub type_on : (scope : Scope) (in_main : Bool) (g : Env) → Agree t scope in_main g → (left : ℕ) (e : Expr) (at : ℕ)
      → Nested left e → expr_known (length t.classes) e ≡ true → Stands (layout t) at (code_of e)
      → type_in (layout t) left scope at ≡ typed_at (type_of t in_main g e) (at + length (code_of e))
  type_on scope in_main g agree left e at nested known stands = (types_on t (read_formed s t reads) scope in_main g agree left).types e at nested known stands

  pub check_on : answer_of (check_of (layout t)) ≡ check t
  check_on = formed_check t (read_formed s t reads)

  -- no two answers of the code are one of the language's (Apart): so the check's is this one
  pub check_said : check_of (layout t) ≡ said_of (check t)
  check_said = sym (said_again (check_of (layout t))) ∙ ap said_of check_on

  -- and so the public call's answer
  pub verdict_on : verdict_of (check_of (layout t)) ≡ calls.check_call s
  unfolding calls.check_text
  verdict_on = same (check_of (layout t)) ∙ ap calls.verdict_of check_on ∙ sym (ap (λ (a : Answer). calls.verdict_of (elim a as (λ _. language.Checked) [ refusal k ↦ language.refused k | read u ↦ check u ])) reads)
    where
      same : (c : Result FieldType Refusal) → verdict_of c ≡ calls.verdict_of (answer_of c)
      same (Ok d) = refl
      same (Err r) = refl
