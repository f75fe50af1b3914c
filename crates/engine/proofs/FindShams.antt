-- The shams of request 2026-03, refuted: a function that meets the contract of `line_find` does not answer as the sham does.
-- Each by a table that is read, which the sham would answer otherwise (as Shams). The table of them is docs/SHAMS.md.
use Rattle.std.proofs.Common.{ℕ, ◌<◌, arith, ◌≡◌, refl, sym, ap, ◌∙◌, true, List, []}
use Rattle.std.proofs.Math.Bool.{false≢true}
use Rattle.std.proofs.Math.Option.{none}
use Rattle.cofj.specs.declared.Finding.{Finding}
use Rattle.cofj.specs.Syntax.{Table, this}
use Rattle.cofj.specs.Bytes.{bytes}
use Rattle.cofj.specs.Reading.{Answer, refusal, read, read_text}
use Rattle.cofj.specs.Finding.{found_at, nothing_found, find_call}
use Rattle.cofj.proofs.Readable.{read_formed}
use Rattle.classes.specs.Machine.{lookup_of}
use Rattle.classes.specs.Layout.{layout}
use Rattle.engine.specs.Finding.{finding_in}
use Rattle.engine.proofs.FindLaws.{finding_on}

-- class 1 has the method 1, class 2 below it has none
pub text : List ℕ
unfolding bytes
text = bytes "01010000\n01020100\n02010101000100004040\n03450000\n"

pub table_in : Answer → Table
table_in (refusal k) = record { classes = []; methods = []; input = none; main = this }
table_in (read t) = t

reads : read_text text ≡ read (table_in (read_text text))
unfolding read_text text table_in
reads = refl

inherited : find_call (table_in (read_text text)) 2 1 ≡ found_at 1 0
unfolding read_text text table_in find_call
inherited = refl

absent : find_call (table_in (read_text text)) 2 2 ≡ nothing_found
unfolding read_text text table_in find_call
absent = refl

module _ (f : List ℕ → ℕ → ℕ → Finding) (meets : (B : List ℕ) (c m : ℕ) → f B c m ≡ finding_in (lookup_of B c m)) where
  abbrev pub B : List ℕ
  B = layout (table_in (read_text text))

  answers : (c m : ℕ) → m < 256 → f B c m ≡ find_call (table_in (read_text text)) c m
  answers c m l = meets B c m ∙ finding_on (table_in (read_text text)) (read_formed text (table_in (read_text text)) reads) c m l

  -- the owner is the class asked for, which is right wherever nothing is inherited
  pub owner_asked_for : ((A : List ℕ) (c m : ℕ) → (f A c m).found ≡ true → (f A c m).owner ≡ c) → ⊥
  owner_asked_for sham =
      let e = answers 2 1 (omega arith) ∙ inherited in
      let o : (f B 2 1).owner ≡ 1 = ap (λ (x : Finding). x.owner) e in
      omega (arith, o, sham B 2 1 (ap (λ (x : Finding). x.found) e))

  -- nothing is answered as method 0 of class 0
  pub nothing_as_zeros : f B 2 2 ≡ found_at 0 0 → ⊥
  nothing_as_zeros sham = false≢true (ap (λ (x : Finding). x.found) (sym (answers 2 2 (omega arith) ∙ absent) ∙ sham))
