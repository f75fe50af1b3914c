-- The code's answers and the language's: a type, what a check answers, and the public call's answer.
use Rattle.std.specs.Prelude.{ℕ, None, Ok, Err}
use Rattle.std.specs.declared.option.Option.{Option as RustOption}
use Rattle.std.specs.declared.result.Result.{Result}
use Rattle.std.proofs.Math.Option.{Option, none, some}
use Rattle.cofj.specs.declared.Refusal.{Refusal}
use Rattle.cofj.specs.declared.Verdict.{Verdict}
use Rattle.cofj.specs.Refusals.{refusal_number}
use Rattle.cofj.specs.Syntax.{Ty, ty}
use Rattle.cofj.specs.Typing.{Checked, refused, accepted}
use Rattle.classes.specs.declared.chain.FieldType.{FieldType}
use Rattle.classes.specs.Layout.{bytes_of}
use Rattle.checker.specs.declared.scope.Typed.{Typed}
use Rattle.checker.specs.Types.{has}

-- a type, or none, of an expression that ends before `next`
abbrev pub typed_at : Option Ty → ℕ → RustOption Typed
typed_at none next = None
typed_at (some u) next = has (bytes_of u) next

-- the language's answer that a check's is: refused with document 01's number, or accepted with main's type. No two are the same
abbrev pub answer_of : Result FieldType Refusal → Checked
answer_of (Ok d) = accepted (ty d.class d.tag)
answer_of (Err r) = refused (refusal_number r)

-- the public call's answer, from the check's
abbrev pub verdict_of : Result FieldType Refusal → Verdict
verdict_of (Ok d) = record { refusal = 0; class = d.class; tag = d.tag }
verdict_of (Err r) = record { refusal = refusal_number r; class = 0; tag = 0 }
