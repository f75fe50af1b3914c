-- What the second text of a run gives, of what the language's `input_of` says: the value in block 0, or the refusal.
-- Not here: the steps (Reading, Merging, Judging).
use Rattle.std.specs.declared.result.Result.{Result}
use Rattle.std.specs.Prelude.{Ok, Err, ℕ, ◌≤◌, ◌≡◌, List, length}
use Rattle.cofj.specs.declared.Refusal.{Refusal}
use Rattle.cofj.specs.Refusals.{refusal_number}
use Rattle.cofj.specs.Syntax.{ty, Table}
use Rattle.cofj.specs.Values.{Node}
use Rattle.cofj.specs.Formed.{AllIn, Formed}
use Rattle.cofj.specs.Batch as language
use Rattle.cofj.specs.Batch.{given, started, fitting, input_of}
use Rattle.classes.specs.Layout.{Tabled}
use Rattle.canon.specs.Figures.{capacity, block_size}
use Rattle.canon.specs.Layout.{Raw}
use Rattle.canon.specs.Numbers.{Has}
use Rattle.batch.specs.Layout.{Lies}

-- the bytes are those of a table that was read, and of parts
pub record SomeTable (T : List ℕ) : Type 0 where
  pub table : Table
  pub bytes : Tabled T table

pub record SomeParts (P : List ℕ) : Type 0 where
  pub nodes : List Node
  pub lie : Lies P nodes

-- room for a block, which has room for so many objects
pub record Room (objects : ℕ) (W : List ℕ) : Type 0 where
  pub block : block_size ≤ length W
  pub few : objects ≤ capacity

-- k objects and room for their value
pub record Objects (R : List ℕ) (k : ℕ) (W : List ℕ) : Type 0 where
  pub raw : Raw R k
  pub some_object : 1 ≤ k
  pub block : block_size ≤ length W

-- the answer for what is given, and the block that has it; or the refusal with that number
abbrev pub Answered : language.Input → List ℕ → Result (Unit {0}) Refusal → Type 0
Answered (language.refused k) W r = (e : Refusal) × (r ≡ Err e) × (refusal_number e ≡ k)
Answered (given v) W r = (r ≡ Ok tt) × Has W 0 v

-- of the parts in P, which are of the table's classes
pub record PartsGiven (T P : List ℕ) (class objects : ℕ) (W : List ℕ) (r : Result (Unit {0}) Refusal) : Type 0 where
  pub of : (t : Table) → Tabled T t → (ns : List Node) → Lies P ns → AllIn (Formed t 0) ns → Answered (fitting objects t.classes (ty class 0) (started ns)) W r

-- of the text S
pub record TextGiven (T S : List ℕ) (class objects : ℕ) (W : List ℕ) (r : Result (Unit {0}) Refusal) : Type 0 where
  pub of : (t : Table) → Tabled T t → Answered (input_of objects t.classes (ty class 0) S) W r
