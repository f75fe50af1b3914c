-- What a walk over several expressions gives.
use Rattle.std.specs.Prelude.{Bool, ℕ}

-- whether every tag was closed, and the place after them; or one has no type, or does not fit
pub data Listed : Type 0 where
  Past : Bool → ℕ → Listed
  No : Listed
