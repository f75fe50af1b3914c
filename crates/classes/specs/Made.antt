-- What building a table and testing its overriding come to in the language: refusals 4 and 5.
-- Not here: what the functions do byte by byte (Building, Overriding); that both agree (proofs/FromText).
use Rattle.std.specs.Prelude.{Ok, Err, is_ok, ℕ, ◌<◌, ◌≡◌, Bool, true, false, List, length, get_or}
use Rattle.std.specs.declared.result.Result.{Result}
use Rattle.std.proofs.Math.Option.{Option, none, some}
use Rattle.cofj.specs.declared.Refusal.{Refusal}
use Rattle.cofj.specs.declared.Refusal.TheVariants.{BadTable, BadOverride}
use Rattle.cofj.specs.Partial.{◌>>=◌}
use Rattle.cofj.specs.Syntax.{Table}
use Rattle.cofj.specs.Frames.{TextFrame, frames}
use Rattle.cofj.specs.Tables.{Raw, ordered, few, table, overrides_good}
use Rattle.lineform.specs.Packed.{Packed, unpack}
use Rattle.lineform.specs.Answers.{Rights}
use Rattle.classes.specs.Figures.{table_size}
use Rattle.classes.specs.Layout.{layout}
use Rattle.classes.specs.Placing.{Placed, placed}
use Rattle.classes.specs.Building.{table_placed}
use Rattle.classes.specs.Overriding.{overrides_of}

-- S is packed lines whose frames are r, and R says where the right expressions of their methods stand: refusals 1 to 3 are passed
pub record Lined (S R : List ℕ) (r : Raw) : Type 0 where
  pub whole : Packed S
  pub bytes : (i : ℕ) → get_or S i 0 < 256
  pub found : List TextFrame
  pub read : frames (unpack S) ≡ some found
  pub order : ordered found >>= few ≡ some r
  pub rights : Rights R found

-- a table's bytes before anything is written
pub record Zeros (B : List ℕ) : Type 0 where
  pub size : length B ≡ table_size
  pub zero_at : (i : ℕ) → get_or B i 0 ≡ 0

abbrev pub answer : Placed → Bool
answer (placed b B) = b

-- what is made of the frames' table: none is refused, and of one the bytes are its layout
pub record Makes (o : Option Table) (p : Placed) : Type 0 where
  pub refused : o ≡ none → answer p ≡ false
  pub made : (t : Table) → o ≡ some t → p ≡ placed true (layout t)

-- a test that is passed, or the refusal k
abbrev pub passed : Refusal → Bool → Result (Unit {0}) Refusal
passed k true = Ok tt
passed k false = Err k

-- the answer g of `place_table` and the bytes that it leaves, byte by byte and in the language
pub record Built (S R : List ℕ) (n m : ℕ) (B : List ℕ) (g : Result (Unit {0}) Refusal) (B' : List ℕ) : Type 0 where
  pub refusal : g ≡ passed BadTable (is_ok g)
  pub is : placed (is_ok g) B' ≡ table_placed S R n m B
  pub makes : (r : Raw) → Lined S R r → n ≡ length r.classes → m ≡ length r.methods → Zeros B → Makes (table r) (placed (is_ok g) B')

-- the answer of `overrides`
pub record Overrides (B : List ℕ) (g : Result (Unit {0}) Refusal) : Type 0 where
  pub is : g ≡ passed BadOverride (overrides_of B)
  pub says : (S R : List ℕ) (r : Raw) (t : Table) → Lined S R r → table r ≡ some t → B ≡ layout t → g ≡ passed BadOverride (overrides_good t t.methods)
