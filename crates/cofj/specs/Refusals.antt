-- The number of each refusal, by documents 01 and 02; and of an answer that may be one, 0 where nothing is refused.
-- Not here: when a call is refused (Calls, Reading, Batch, Typing, Writing).
use Rattle.std.specs.Prelude.{ℕ}
use Rattle.std.specs.declared.result.Result.{Result}
use Rattle.std.specs.declared.result.Result.TheVariants.{Ok, Err}
use Rattle.cofj.specs.declared.Refusal.{Refusal}
use Rattle.cofj.specs.declared.Refusal.TheVariants.{NoLineForm, BadFrame, BadOrder, BadTable, BadOverride, UntypedMethod, UntypedMain, UnreadableTable, ShortText, ClosedSession, ShortReport, ShortWork, BadParts, UnfitParts}

abbrev pub refusal_number : Refusal → ℕ
refusal_number NoLineForm = 1
refusal_number BadFrame = 2
refusal_number BadOrder = 3
refusal_number BadTable = 4
refusal_number BadOverride = 5
refusal_number UntypedMethod = 6
refusal_number UntypedMain = 7
refusal_number UnreadableTable = 8
refusal_number ShortText = 9
refusal_number ClosedSession = 11
refusal_number ShortReport = 12
refusal_number ShortWork = 13
refusal_number BadParts = 14
refusal_number UnfitParts = 15

abbrev pub answer_number : {A : Type 0} → Result A Refusal → ℕ
answer_number (Ok a) = 0
answer_number (Err r) = refusal_number r
