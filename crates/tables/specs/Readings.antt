-- What `read` answers, of what the language's `read_text` gives: the table's bytes, or the refusal and zeros.
use Rattle.std.specs.Prelude.{ℕ, ◌<◌, ◌≡◌, Bool, true, false, List, length, get_or, replicate, Ok}
use Rattle.std.specs.declared.result.Result.{Result}
use Rattle.cofj.specs.declared.Refusal.{Refusal}
use Rattle.cofj.specs.Refusals.{answer_number}
use Rattle.std.proofs.Math.Option.{Option, none, some}
use Rattle.cofj.specs.Partial.{◌>>=◌}
use Rattle.cofj.specs.Syntax.{Table}
use Rattle.cofj.specs.Frames.{TextFrame, frames}
use Rattle.cofj.specs.Tables.{Raw, ordered, few, table, overrides_good}
use Rattle.cofj.specs.Reading.{Answer, refusal, read, read_text}
use Rattle.lineform.specs.Packed.{Packed}
use Rattle.classes.specs.Layout.{layout}
use Rattle.classes.specs.Made.{Lined}
use Rattle.tables.specs.declared.read.Reading.{Reading}

-- a table without bytes set; shut, so that no comparison writes it out
unfoldable pub zero_table : List ℕ
zero_table = replicate 25616 0

abbrev pub no_table : ℕ → Reading
no_table k = record { refusal = k; table = record { bytes = zero_table } }

abbrev pub the_table : Table → Reading
the_table t = record { refusal = 0; table = record { bytes = layout t } }

-- ---- the answer after each step
abbrev pub after_overriding : Table → Bool → Reading
after_overriding t true = the_table t
after_overriding t false = no_table 5

abbrev pub after_table : Option Table → Reading
after_table none = no_table 4
after_table (some t) = after_overriding t (overrides_good t t.methods)

abbrev pub after_order : Option Raw → Reading
after_order none = no_table 3
after_order (some r) = after_table (table r)

abbrev pub after_frames : Option (List TextFrame) → Reading
after_frames none = no_table 2
after_frames (some fs) = after_order (ordered fs >>= few)

abbrev pub after_lines : Option (List (List ℕ)) → Reading
after_lines none = no_table 1
after_lines (some ls) = after_frames (frames ls)

-- the answer for a text
abbrev pub answered : Answer → Reading
answered (refusal k) = no_table k
answered (read t) = the_table t

unfoldable pub reading_of : List ℕ → Reading
unfolding read_text
reading_of s = answered (read_text s)

-- x and the bytes B are the answer; after a refusal the bytes are open
pub record Into (r : Reading) (x : Result (Unit {0}) Refusal) (B : List ℕ) : Type 0 where
  pub number : answer_number x ≡ r.refusal
  pub table : x ≡ Ok tt → B ≡ r.table.bytes

-- ---- what the steps have made sure of
-- packed lines of bytes
pub record ByteLines (S : List ℕ) : Type 0 where
  pub whole : Packed S
  pub bytes : (i : ℕ) → get_or S i 0 < 256

-- packed lines in order, with n classes and m methods, whose right expressions stand where R says
pub record Counted (S R : List ℕ) (n m : ℕ) : Type 0 where
  pub raw : Raw
  pub lined : Lined S R raw
  pub classes : n ≡ length raw.classes
  pub methods : m ≡ length raw.methods
