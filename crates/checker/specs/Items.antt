-- The types that a list of expressions is to fit.
use Rattle.std.specs.Prelude.{ℕ}

-- a method's parameters or a class's fields
pub data Items : Type 0 where
  Parameters : ℕ → Items
  Fields : ℕ → Items
