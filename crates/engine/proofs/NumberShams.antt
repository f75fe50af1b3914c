-- The shams of request 2026-02, refuted: a function that meets the contract of a run does not treat numbers as the sham does.
-- Each by a call that the sham would answer otherwise (as Shams; the calls are those of cofj's RequestRows). The table of them is docs/SHAMS.md.
use Prim.Native.String.{String}
use Rattle.std.proofs.Common.{arith, ◌≡◌, refl, sym, ap, ◌∙◌}
use Rattle.cofj.specs.Bytes.{bytes}
use Rattle.cofj.specs.RequestRows.{row_overflow, row_equal_numbers, row_other_numbers, row_choose_second, row_no_object, row_thirteen}
use Rattle.cofj.specs.Running.{run}
use Rattle.cofj.specs.Calls.{checked, Call, Ran, admit, run_call}
use Rattle.cofj.specs.Show.{report_admitted}
use Rattle.cofj.specs.Promises.{report_text}
use Rattle.engine.proofs.Shams.{calling, admits, ran_as, apart, says}

report_overflow : report_admitted (admits checked row_overflow.text "") 0 ≡ bytes "0705\n"
unfolding admit run bytes
report_overflow = refl

report_equal : report_admitted (admits checked row_equal_numbers.text "") 0 ≡ bytes "050002020101\n05010101FE0005\n"
unfolding admit run bytes
report_equal = refl

report_other : report_admitted (admits checked row_other_numbers.text "") 0 ≡ bytes "050002020102\n05010101FE0005\n05020101FE0006\n"
unfolding admit run bytes
report_other = refl

report_chosen : report_admitted (admits checked row_choose_second.text "") 0 ≡ bytes "05000200\n"
unfolding admit run bytes
report_chosen = refl

-- 1 is not 0, and its second branch would call
abbrev text_branch : String
text_branch = "01010000\n0201010000000000450000450000\n0349460001450000440100450100\n"

report_branch : report_admitted (admits checked text_branch "") 0 ≡ bytes "05000000\n"
unfolding admit run bytes
report_branch = refl

module _ (f : Call → Ran) (meets : (a : Call) → f a ≡ run_call a) where
  -- the class of numbers stands below Object: a number is taken for an object's field
  pub number_below_object : (f (calling checked row_no_object.text 9)).answer.refusal ≡ 0 → ⊥
  unfolding admit bytes
  number_below_object sham =
      let e : (f (calling checked row_no_object.text 9)).answer.refusal ≡ 7 =
      ap (λ (r : Ran). r.answer.refusal) (meets (calling checked row_no_object.text 9) ∙ ran_as checked row_no_object.text "" 9) in
      omega (arith, e, sham)

  -- or below the class that the table's bytes happen to name at its place: a table with thirteen classes and a method D0
  pub number_below_method : (f (calling checked row_thirteen.text 9)).answer.refusal ≡ 0 → ⊥
  unfolding admit bytes
  number_below_method sham =
      let e : (f (calling checked row_thirteen.text 9)).answer.refusal ≡ 7 =
      ap (λ (r : Ran). r.answer.refusal) (meets (calling checked row_thirteen.text 9) ∙ ran_as checked row_thirteen.text "" 9) in
      omega (arith, e, sham)

  -- a sum stays at the largest number, or comes round to 0
  pub sum_stays : report_text (f (calling checked row_overflow.text 0)) ≡ bytes "09FFFF\n" → ⊥
  unfolding bytes
  sum_stays sham = apart 1 (bytes "0705\n") (bytes "09FFFF\n") (λ z. omega arith) (sym (says f meets checked row_overflow.text 0 _ report_overflow) ∙ sham)

  pub sum_wraps : report_text (f (calling checked row_overflow.text 0)) ≡ bytes "090000\n" → ⊥
  unfolding bytes
  sum_wraps sham = apart 1 (bytes "0705\n") (bytes "090000\n") (λ z. omega arith) (sym (says f meets checked row_overflow.text 0 _ report_overflow) ∙ sham)

  -- it is said to be too large: then two limits would be one
  pub overflow_too_large : report_text (f (calling checked row_overflow.text 0)) ≡ bytes "0704\n" → ⊥
  unfolding bytes
  overflow_too_large sham = apart 3 (bytes "0705\n") (bytes "0704\n") (λ z. omega arith) (sym (says f meets checked row_overflow.text 0 _ report_overflow) ∙ sham)

  -- all numbers are one leaf
  pub one_number : report_text (f (calling checked row_equal_numbers.text 0)) ≡ report_text (f (calling checked row_other_numbers.text 0)) → ⊥
  unfolding bytes
  one_number sham =
      apart 11 (bytes "050002020101\n05010101FE0005\n") (bytes "050002020102\n05010101FE0005\n05020101FE0006\n") (λ z. omega arith)
      (sym (says f meets checked row_equal_numbers.text 0 _ report_equal) ∙ sham ∙ says f meets checked row_other_numbers.text 0 _ report_other)

  -- the first branch is taken for 0
  pub first_for_zero : report_text (f (calling checked row_choose_second.text 0)) ≡ bytes "05000100\n" → ⊥
  unfolding bytes
  first_for_zero sham = apart 5 (bytes "05000200\n") (bytes "05000100\n") (λ z. omega arith) (sym (says f meets checked row_choose_second.text 0 _ report_chosen) ∙ sham)

  -- both branches are run: the second one calls, and there is no fuel
  pub both_branches : report_text (f (calling checked text_branch 0)) ≡ bytes "0702\n" → ⊥
  unfolding bytes
  both_branches sham = apart 1 (bytes "05000000\n") (bytes "0702\n") (λ z. omega arith) (sym (says f meets checked text_branch 0 _ report_branch) ∙ sham)
