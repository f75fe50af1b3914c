-- Where a method is found in a table's bytes: what the answer of `find_method` is of a table that is read.
-- Not here: the search on bytes (crate classes), its meaning (cofj's Lookup).
use Rattle.std.proofs.Common.{ℕ, ◌+◌, ◌<◌, ◌≡◌, refl, ap, ◌∙◌, true, get_or, Some, None}
use Rattle.std.proofs.Math.Bool.{false≢true}
use Rattle.std.proofs.Math.Option.{Option, none, some}
use Rattle.std.specs.declared.option.Option.{Option as RustOption}
use Rattle.cofj.specs.Syntax.{Table}
use Rattle.cofj.specs.Lookup as language
use Rattle.cofj.specs.Finding.{finding_of, find_call}
use Rattle.cofj.specs.WellFormed.{WellFormed}
use Rattle.classes.specs.declared.methods.Found.{Found}
use Rattle.classes.specs.Machine.{lookup_of, row_of}
use Rattle.classes.specs.Layout.{layout}
use Rattle.classes.proofs.OnTables.{found_as, found_on, row_owner}
use Rattle.engine.specs.Finding.{finding_in}

module _ (t : Table) (wf : WellFormed t) (c m : ℕ) (small : m < 256) where
  -- the language's answer
  pub finding_on : finding_in (lookup_of (layout t) c m) ≡ find_call t c m
  unfolding find_call
  finding_on = ap finding_in (found_on t wf m small c) ∙ go (language.lookup t c m)
    where
      go : (o : Option language.Found) → finding_in (found_as t m o) ≡ finding_of t m o
      go none = refl
      go (some f) = refl

  -- the method's row names the same owner
  pub row_on : (finding_in (lookup_of (layout t) c m)).found ≡ true → get_or (layout t) (row_of (finding_in (lookup_of (layout t) c m)).method + 1) 0 ≡ (finding_in (lookup_of (layout t) c m)).owner
  row_on h = go (lookup_of (layout t) c m) refl h
    where
      go : (f : RustOption Found) → lookup_of (layout t) c m ≡ f → (finding_in f).found ≡ true → get_or (layout t) (row_of (finding_in f).method + 1) 0 ≡ (finding_in f).owner
      go (Some f) q z = row_owner t wf m small c f.owner f.method q
      go None q z = absurd (false≢true z)
