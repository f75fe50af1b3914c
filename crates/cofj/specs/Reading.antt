-- Reading a text: the table, or the lowest refusal of 1 to 5, each over the whole text.
use Rattle.std.specs.Prelude.{ℕ, List}
use Rattle.std.proofs.Math.Option.{Option, none, some}
use Rattle.cofj.specs.Partial.{◌>>=◌}
use Rattle.cofj.specs.Syntax.{Table}
use Rattle.cofj.specs.Text.{lines}
use Rattle.cofj.specs.Frames.{frames}
use Rattle.cofj.specs.Tables.{ordered, few, table, overridden, overrides_good}

pub data Answer : Type 0 where
  refusal : ℕ → Answer
  read : Table → Answer

infixl 20 ◌else◌next◌
abbrev pub ◌else◌next◌ : {A : Type 0} → Option A → ℕ → (A → Answer) → Answer
none else n next f = refusal n
some a else n next f = f a

unfoldable pub read_text : List ℕ → Answer
unfolding lines frames ordered table overrides_good
read_text s =
    lines s else 1 next λ ls.
    frames ls else 2 next λ fs.
    (ordered fs >>= few) else 3 next λ r.
    table r else 4 next λ t.
    overridden t else 5 next λ u. read u
