-- Every row of the table holds of the definitions, by computation; and what `linerun` writes for some input.
use mathlib.Core.Path.{◌≡◌, refl, subst⁻¹}
use mathlib.Core.Logic.{◌⊎◌, inl, inr}
use mathlib.Core.List.Memᴰ
use mathlib.Core.List.{List, [], ◌∷◌, map, Memᴰ}
use Rattle.cofj.specs.Values.{Graph, graph, node, obj, make, close, mark_of}
use Rattle.cofj.specs.Bytes.{bytes}
use Rattle.cofj.specs.Show.{linerun}
use Rattle.cofj.specs.Rows.{Row, shown, computed, said, Holds}
use Rattle.cofj.specs.RequestRows.{rows}

each : (rs : List Row) → map computed rs ≡ map said rs → (r : Row) → Memᴰ r rs → Holds r
each [] e r m = absurd (Memᴰ.not-nil m)
each (x ∷ xs) e r m = go (Memᴰ.cases_cons m) (each xs (let z : map computed xs ≡ map said xs = cc in z) r)
  where
    go : (r ≡ x) ⊎ Memᴰ r xs → (Memᴰ r xs → Holds r) → Holds r
    go (inl q) ih = subst⁻¹ Holds q (let z : computed x ≡ said x = cc in z)
    go (inr n) ih = ih n

all_computed : map computed rows ≡ map said rows
unfolding shown bytes
all_computed = refl

-- the theorem of the table
pub all_rows : (r : Row) → Memᴰ r rows → Holds r
all_rows = each rows all_computed

-- ---- `linerun`, which cuts its input in two
-- both texts in one input
shows_both : linerun (bytes "01010000\n010201010100\n010301010100\n04020043004200\n0500020101\n0501030102\n0502020103\n0503030100\n05040100\n") ≡ bytes "08000100\n0500030101\n0501020100\n"
unfolding linerun bytes
shows_both = refl

-- all that follows the line is the second text, frames too
shows_rest : linerun (bytes "0400004200\n03450000\n") ≡ bytes "080E\n"
unfolding linerun bytes
shows_rest = refl

-- the line has no end
shows_unended : linerun (bytes "0400004200") ≡ bytes "0801\n"
unfolding linerun bytes
shows_unended = refl

-- main stands twice
shows_second_main : linerun (bytes "03450000\n0400004200\n05000000\n") ≡ bytes "0803\n"
unfolding linerun bytes
shows_second_main = refl

-- no line begins `04`: one text
shows_no_line : linerun (bytes "03450000\n05000000\n") ≡ bytes "0802\n"
unfolding linerun bytes
shows_no_line = refl

-- the type in the line has tag 03, 04, an unknown class
shows_minus_type : linerun (bytes "0400034200\n05000000\n") ≡ bytes "0804\n"
unfolding linerun bytes
shows_minus_type = refl

shows_no_tag : linerun (bytes "0400044200\n05000000\n") ≡ bytes "0802\n"
unfolding linerun bytes
shows_no_tag = refl

shows_no_class : linerun (bytes "0401004200\n05000000\n") ≡ bytes "0804\n"
unfolding linerun bytes
shows_no_class = refl

-- ---- case E as an equation of two values: X = new C(Y = new C(X)) and Z = new C(Z)
pub ring_of_two : Graph
unfolding make close
ring_of_two = close 0 (make 1 (close 1 (make 1 (mark_of 0 ∷ [])) ∷ []))

pub ring_of_one : Graph
unfolding make close
ring_of_one = close 0 (make 1 (mark_of 0 ∷ []))

pub rings_equal : ring_of_two ≡ ring_of_one
unfolding ring_of_two ring_of_one
rings_equal = refl

-- and they are one object
pub ring_object : ring_of_one ≡ graph (obj 0) (node 1 (obj 0 ∷ []) ∷ [])
unfolding ring_of_one
ring_object = refl
