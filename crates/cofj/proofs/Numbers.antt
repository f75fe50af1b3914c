-- The class of numbers is none of a table's: it fits only itself, nothing else fits it, and it has no fields and no methods.
use Prim.Native.Nat.{ℕ, ◌≤◌, ◌<◌}
use native.Mathlib.Omega.{arith}
use mathlib.Core.Path.{◌≡◌, refl, sym, ◌∙◌}
use mathlib.Core.Bool.{Bool, true, false, false≢true}
use mathlib.Core.List.{[]}
use mathlib.Core.Option.{none}
use lib.Dec.{leb}
use lib.ListN.{length}
use borrow.Author.Tests.{eqb-true, leb-true, leb-false}
use Rattle.cofj.specs.Limits.{number_class}
use Rattle.cofj.specs.Syntax.{Table}
use Rattle.cofj.specs.Classes.{class_fits, fields_of}
use Rattle.cofj.specs.Lookup.{lookup}
use Rattle.cofj.specs.WellFormed.{WellFormed}
use Rattle.cofj.proofs.Chain.{past_fits, fits_past}
use Rattle.cofj.proofs.Climb.{fields_past}
use Rattle.cofj.proofs.Lookup.{lookup_past}

module _ (t : Table) (wf : WellFormed t) where
  few : length t.classes < number_class
  few = omega (arith, wf.classes)

  pub number_above : (d : ℕ) → class_fits t.classes number_class d ≡ true → d ≡ number_class
  number_above d h = sym (eqb-true number_class d (sym (past_fits t.classes number_class d few) ∙ h))

  pub number_below : (c : ℕ) → class_fits t.classes c number_class ≡ true → c ≡ number_class
  number_below c h = go (leb c (length t.classes)) (leb-true c (length t.classes)) (leb-false c (length t.classes))
    where
      go : (b : Bool) → (b ≡ true → c ≤ length t.classes) → (b ≡ false → length t.classes < c) → c ≡ number_class
      go true p q = absurd (false≢true (sym (fits_past t.classes wf.parents c number_class (p refl) few) ∙ h))
      go false p q = eqb-true c number_class (sym (past_fits t.classes c number_class (q refl)) ∙ h)

  pub number_fields : fields_of t.classes number_class ≡ []
  number_fields = fields_past t.classes wf.parents number_class few

  pub number_lookup : (m : ℕ) → lookup t number_class m ≡ none
  number_lookup m = lookup_past t wf number_class m few
