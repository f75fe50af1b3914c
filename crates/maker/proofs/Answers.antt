-- Answers that may be none: what holds of the number that is answered, for the numbers that an answer may have. Asked for where an answer is given (Enters, Imports,
-- Imported, Brings, Numberings).
use Rattle.std.proofs.Common.{ℕ, ◌≡◌, sym, subst}
use Rattle.std.specs.declared.option.Option.TheVariants.{Some, None}
use Rattle.std.proofs.lemmas.Option.{none-some, same_Some}

pub only : (P : ℕ → Type 0) (r : ℕ) → P r → (s : ℕ) → Some r ≡ Some s → P s
only P r p s e = subst P (same_Some r s e) p

pub never_none : {A : Type 0} (r : ℕ) → Some r ≡ None → A
never_none r e = absurd (none-some r (sym e))

pub never_some : (P : ℕ → Type 0) (r : ℕ) → None ≡ Some r → P r
never_some P r e = absurd (none-some r e)
