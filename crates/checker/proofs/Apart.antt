-- No two of the code's answers are one and the same of the language's: a refusal's number says which refusal it is.
use Rattle.std.proofs.Common.{◌≡◌, refl, sym, ap, ◌∙◌, ℕ, eqb, Ok, Err}
use Rattle.std.specs.declared.result.Result.{Result}
use Rattle.cofj.specs.declared.Refusal.{Refusal}
use Rattle.cofj.specs.declared.Refusal.TheVariants.{NoLineForm, BadFrame, BadOrder, BadTable, BadOverride, UntypedMethod, UntypedMain, UnreadableTable, ShortText, ClosedSession, ShortReport, ShortWork, BadParts, UnfitParts}
use Rattle.cofj.specs.Refusals.{refusal_number}
use Rattle.cofj.specs.Typing.{Checked, refused, accepted}
use Rattle.classes.specs.declared.chain.FieldType.{FieldType}
use Rattle.classes.specs.Machine.{pick}
use Rattle.classes.specs.Layout.{bytes_of}
use Rattle.checker.specs.Answers.{answer_of}

-- the refusal of a number, where one has it
abbrev named : ℕ → Refusal
named n =
    pick (eqb n 1) NoLineForm
    (pick (eqb n 2) BadFrame
    (pick (eqb n 3) BadOrder
    (pick (eqb n 4) BadTable
    (pick (eqb n 5) BadOverride
    (pick (eqb n 6) UntypedMethod
    (pick (eqb n 7) UntypedMain
    (pick (eqb n 8) UnreadableTable
    (pick (eqb n 9) ShortText
    (pick (eqb n 11) ClosedSession
    (pick (eqb n 12) ShortReport
    (pick (eqb n 13) ShortWork
    (pick (eqb n 14) BadParts UnfitParts))))))))))))

named_again : (r : Refusal) → named (refusal_number r) ≡ r
named_again NoLineForm = refl
named_again BadFrame = refl
named_again BadOrder = refl
named_again BadTable = refl
named_again BadOverride = refl
named_again UntypedMethod = refl
named_again UntypedMain = refl
named_again UnreadableTable = refl
named_again ShortText = refl
named_again ClosedSession = refl
named_again ShortReport = refl
named_again ShortWork = refl
named_again BadParts = refl
named_again UnfitParts = refl

pub numbers_apart : (r s : Refusal) → refusal_number r ≡ refusal_number s → r ≡ s
numbers_apart r s e = sym (named_again r) ∙ ap named e ∙ named_again s

-- the code's answer, of the language's
abbrev pub said_of : Checked → Result FieldType Refusal
said_of (accepted u) = Ok (bytes_of u)
said_of (refused n) = Err (named n)

pub said_again : (x : Result FieldType Refusal) → said_of (answer_of x) ≡ x
said_again (Ok d) = refl
said_again (Err r) = ap Err (named_again r)

pub answers_apart : (x y : Result FieldType Refusal) → answer_of x ≡ answer_of y → x ≡ y
answers_apart x y e = sym (said_again x) ∙ ap said_of e ∙ said_again y
