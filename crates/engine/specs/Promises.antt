-- What is promised of this crate's own results, as statements: what a run returned, what reading and writing give in a table's bytes, and where a method is
-- found in them.
-- Proved in proofs/Promise. Not here: the promises of the other calls, which are the language's (cofj's Promises).
use Rattle.std.specs.Prelude.{ℕ, ◌+◌, ◌≤◌, ◌<◌, ◌≡◌, true, ◌↔◌, get_or}
use mathlib.Core.List.{List, Memᴰ}
use Rattle.std.proofs.Math.Option.{some}
use Rattle.std.specs.Prelude.{None}
use Rattle.std.specs.declared.result.Result.{Result}
use Rattle.cofj.specs.declared.Refusal.{Refusal}
use Rattle.cofj.specs.declared.Refusal.TheVariants.{BadFrame}
use Rattle.cofj.specs.Refusals.{refusal_number, answer_number}
use Rattle.cofj.specs.declared.Finding.{Finding}
use Rattle.cofj.specs.Text.{lines}
use Rattle.cofj.specs.Syntax.{Table}
use Rattle.cofj.specs.Frames.{TextFrame, frame, frames}
use Rattle.cofj.specs.Reading.{refusal, read}
use Rattle.cofj.specs.Writing.{text}
use Rattle.cofj.specs.Calls.{Call, Ran, run_call, Wrote}
use Rattle.cofj.specs.Promises.{Reads, Writes, FindsMethod}
use Rattle.lineform.specs.declared.lines.Counts.{Counts}
use Rattle.lineform.specs.Answers.{decoded_of, framed_of, order_of}
use Rattle.classes.specs.Machine.{lookup_of, row_of}
use Rattle.classes.specs.Layout.{layout}
use Rattle.tables.specs.declared.read.Reading.{Reading}
use Rattle.tables.specs.Readings.{no_table, the_table, reading_of}
use Rattle.tables.specs.Writings.{text_in, holding}
use Rattle.engine.specs.Finding.{finding_in}

-- what a run of the engine returned for a call: its answer and both buffers, as the contract has them
pub record Returned (a : Call) (x : Ran) : Type 0 where
  pub is : x ≡ run_call a

-- reading: the table's bytes, or the number and zeros
pub record ReadsInto (s : List ℕ) (x : Reading) : Type 0 where
  pub refuses : (k : ℕ) → Reads s (refusal k) → x ≡ no_table k
  pub table : (t : Table) → Reads s (read t) → x ≡ the_table t
  -- 0 exactly for a text that has a table
  pub zero : (x.refusal ≡ 0) ↔ ((t : Table) × Reads s (read t))
  pub most : x.refusal ≤ 5
  -- the answers of the steps, by document 01's numbers: the first that is not 0 is the call's; a line without a frame is 2
  pub decoded : (o : Result ℕ Refusal) → o ≡ decoded_of (lines s) → (answer_number o ≡ 0 → ⊥) → x.refusal ≡ answer_number o
  pub framed : (ls : List (List ℕ)) → lines s ≡ some ls → (l : List ℕ) → Memᴰ l ls → framed_of (frame l) ≡ None → x.refusal ≡ refusal_number BadFrame
  pub ordered : (ls : List (List ℕ)) (fs : List TextFrame) → lines s ≡ some ls → frames ls ≡ some fs → (o : Result Counts Refusal) → o ≡ order_of (some fs) → (answer_number o ≡ 0 → ⊥)
      → x.refusal ≡ answer_number o

-- the writer, of a table's bytes B: their text is the one that reads into them, and 8 is for exactly the bytes that have none
pub record WritesFrom (B buffer : List ℕ) (x : Wrote) : Type 0 where
  pub writes : Writes (text_in B) buffer x
  pub texts : (s : List ℕ) → (text_in B ≡ text s) ↔ (reading_of s ≡ holding B)
  pub eight : (x.answer.refusal ≡ 8) ↔ ((s : List ℕ) → reading_of s ≡ holding B → ⊥)

-- where the method of a name m is found from a class byte c, asked of a table's bytes B
pub record FindsIn (B : List ℕ) (c m : ℕ) (x : Finding) : Type 0 where
  -- of any bytes: what the search of their index finds; the owner is the class in which it stops
  pub any : x ≡ finding_in (lookup_of B c m)
  -- of the bytes that a text reads into: what the language says of its table
  pub table : (s : List ℕ) (t : Table) → Reads s (read t) → B ≡ layout t → m < 256 → FindsMethod t c m x
  -- and the method's row names the same owner
  pub row : (s : List ℕ) (t : Table) → Reads s (read t) → B ≡ layout t → m < 256 → x.found ≡ true → get_or B (row_of x.method + 1) 0 ≡ x.owner
