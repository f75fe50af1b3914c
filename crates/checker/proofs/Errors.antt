-- Errors that document 01 says this trade has made, refuted of the definitions: an answer that the error would change, and what it is.
-- The must-fail edits make the same errors in the code. Figure 6 of 002 lets C- fit C-?; the left type is compared with the second
-- result type as it is; in a body a call has the second result type. Document 02: a number fits no class of the table.
use Rattle.std.proofs.Common.{ℕ, ◌+◌, ◌≡◌, refl, sym, ap, ◌∙◌, true, false, List}
use Rattle.cofj.specs.Limits.{number_class}
use Rattle.classes.specs.declared.chain.FieldType.{FieldType}
use Rattle.classes.specs.Machine.{pick, up, fits_in, type_at, row_of}
use Rattle.classes.proofs.Laws.{fit_same}
use Rattle.checker.specs.Types.{tagged, close_type, fits_type, result_of}
use Rattle.checker.specs.Program.{fits_first, fits_second, results_fit}

-- C- does not fit C-?, whatever the classes
pub order_of_tags : (B : List ℕ) (c d : ℕ) → fits_type B (tagged c 3) (tagged d 2) ≡ false
order_of_tags B c d = refl

-- a method C+ with C+ whose left type is C+? and whose right type is C+: all conditions hold but the last
module _ (B : List ℕ) (i c : ℕ) (ef : type_at B (row_of i + 3) ≡ tagged c 0) (es : type_at B (row_of i + 5) ≡ tagged c 0) where
  same_fits : true ≡ fits_type B (tagged c 0) (tagged c 0)
  same_fits = fit_same B c c refl

  pub closed_fits_first : fits_first B i (close_type (tagged c 1)) ≡ true
  unfolding fits_first
  closed_fits_first = ap (fits_type B (tagged c 0)) ef ∙ sym same_fits

  pub closed_fits_second : fits_second B i (tagged c 0) ≡ true
  unfolding fits_second
  closed_fits_second = ap (fits_type B (tagged c 0)) es ∙ sym same_fits

  open_fits_not : fits_second B i (tagged c 1) ≡ false
  unfolding fits_second
  open_fits_not = ap (fits_type B (tagged c 1)) es

  -- so it has no type: with the last condition left out, or the question mark stripped before it, it would
  pub left_as_it_is : results_fit B i (tagged c 1) (tagged c 0) ≡ false
  unfolding results_fit
  left_as_it_is = (λ j. pick (closed_fits_first j) (pick (closed_fits_second j) (pick (first_is j) (open_fits_not j) false) false) false)
    where
      first_is : fits_second B i (type_at B (row_of i + 3)) ≡ true
      first_is = ap (λ (d : FieldType). fits_second B i d) ef ∙ closed_fits_second

-- the type of a call in a body
pub second_in_bodies : (B : List ℕ) (i : ℕ) → result_of B false i ≡ type_at B (row_of i + 5)
second_in_bodies B i = refl

-- a number does not fit Object, whatever stands in the bytes: numbers have no row there
pub number_no_object : (B : List ℕ) → fits_type B (tagged number_class 0) (tagged 0 0) ≡ false
unfolding fits_in up
number_no_object B = refl
