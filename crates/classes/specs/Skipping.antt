-- The place after an expression in a table's bytes B, at the code's grain. Not here: that this is the place after its code (proofs/SkipLaws).
use Rattle.std.specs.Prelude.{ℕ, zero, suc, ◌+◌, ◌-◌, ◌<◌, ◌≤◌, ◌≡◌, List, eqb, leb, get_or}
use Rattle.lineform.specs.declared.sign.SignRow.{SignRow}
use Rattle.lineform.specs.Signs.{sign_row}
use Rattle.classes.specs.Figures.{table_size}
use Rattle.classes.specs.Machine.{pick}
use Rattle.classes.specs.Shapes.{byte_in}

-- the row of the sign at a place
abbrev pub row_at : List ℕ → ℕ → SignRow
row_at B at = sign_row (get_or B at 0) (byte_in B (at + 2))

-- g is that row
pub record SignIn (B : List ℕ) (at : ℕ) (g : SignRow) : Type 0 where
  pub is : g ≡ row_at B at
  pub short : g.size ≤ 3
  pub few : g.parts ≤ 258

-- the place after `left` expressions from `at` on, at most n signs further; each sign takes a byte at least
unfoldable pub skip_to : ℕ → List ℕ → ℕ → ℕ → ℕ
skip_to zero B left at = at
skip_to (suc n) B zero at = at
skip_to (suc n) B (suc left) at =
    pick (leb table_size at) at (pick (eqb (row_at B at).size 0) at (skip_to n B (left + (row_at B at).parts) (at + (row_at B at).size)))

unfoldable pub skip_of : List ℕ → ℕ → ℕ
skip_of B at = skip_to (table_size - at) B 1 at

-- r is that place: past the table by less than a sign, or where it began
pub record Skipped (B : List ℕ) (at r : ℕ) : Type 0 where
  pub is : r ≡ skip_of B at
  pub low : (limit : ℕ) → table_size + 3 ≤ limit → at < limit → r < limit
