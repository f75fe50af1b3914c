-- Fields of fields: where they begin in an expression.
-- Not here: what they are selected of (Evaluation).
use Rattle.std.specs.Prelude.{ℕ, ◌+◌, ◌*◌, ◌≤◌, ◌<◌, ◌≡◌, true, List}
use Rattle.classes.specs.Shapes.{is_field}

-- d fields of fields begin at `at`, and the nesting left is enough for them
pub record Chain (T : List ℕ) (at left d : ℕ) : Type 0 where
  pub few : d ≤ left
  pub each : (i : ℕ) → i < d → is_field T (at + 2 * i) ≡ true
