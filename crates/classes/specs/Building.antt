-- What the functions make of a text's packed lines S, one after another. Not here: one line (Placing).
use Rattle.std.specs.Prelude.{Some, None, ℕ, zero, suc, ◌+◌, ◌-◌, true, false, List, leb, ltb, length, get_or, take, drop, set}
use Rattle.std.specs.declared.option.Option.{Option}
use Rattle.classes.specs.Figures.{class_count_at, method_count_at}
use Rattle.classes.specs.Machine.{pick}
use Rattle.classes.specs.Placing.{Placed, placed, class_placed, method_placed, main_placed}

-- where the lines go on, if none is refused, and the table's bytes
pub data Walked : Type 0 where
  walked : Option ℕ → List ℕ → Walked

-- where the line at a place ends, if it is whole
abbrev pub line_end : List ℕ → ℕ → Option ℕ
line_end S at = pick (leb (length S) at) None (pick (ltb (length S - (at + 1)) (get_or S at 0)) None (Some (at + 1 + get_or S at 0)))

abbrev pub by_line : {A : Type 0} → Option ℕ → A → (ℕ → A) → A
by_line None x f = x
by_line (Some e) x f = f e

-- the line at a place
abbrev pub line_at : List ℕ → ℕ → List ℕ
line_at S at = take (get_or S at 0) (drop (at + 1) S)

abbrev pub onward : Placed → (List ℕ → Walked) → Walked
onward (placed false B) f = walked None B
onward (placed true B) f = f B

-- c lines from `at` on, each placed under its number: k, k + 1, ..
unfoldable pub lines_placed : (List ℕ → ℕ → List ℕ → Placed) → List ℕ → ℕ → ℕ → ℕ → List ℕ → Walked
lines_placed put S zero at k B = walked (Some at) B
lines_placed put S (suc c) at k B =
    by_line (line_end S at) (walked None B) (λ e. onward (put (line_at S at) k B) (λ B'. lines_placed put S c e (k + 1) B'))

unfoldable pub last_placed : List ℕ → ℕ → ℕ → List ℕ → Placed
last_placed S at n B = by_line (line_end S at) (placed false B) (λ e. main_placed (line_at S at) n B)

abbrev pub and_then : Walked → (ℕ → List ℕ → Placed) → Placed
and_then (walked None B) f = placed false B
and_then (walked (Some a) B) f = f a B

abbrev pub counted : ℕ → ℕ → Placed → Placed
counted n m (placed false B) = placed false B
counted n m (placed true B) = placed true (set (set B class_count_at n) method_count_at m)

-- methods and main from `at` on, and the counts; R says where the methods' right expressions stand
unfoldable pub rest_placed : List ℕ → List ℕ → ℕ → ℕ → ℕ → List ℕ → Placed
rest_placed S R n m at B = and_then (lines_placed (λ l i B'. method_placed l i (get_or R i 0) n B') S m at 0 B) λ b B₂. counted n m (last_placed S b n B₂)

unfoldable pub table_placed : List ℕ → List ℕ → ℕ → ℕ → List ℕ → Placed
table_placed S R n m B = and_then (lines_placed (λ l k B'. class_placed l k n B') S n 0 1 B) λ a B₁. rest_placed S R n m a B₁
