-- The table of signs: the bytes of each with what belongs to it, and how many expressions follow.
-- Not here: the expressions themselves (cofj, Frames).
use Rattle.std.specs.Prelude.{ℕ, ◌+◌, ◌≤◌, ◌≡◌, Bool, cond, eqb, ltb}
use Rattle.lineform.specs.declared.sign.SignRow.{SignRow}

abbrev pub this_sign : ℕ
this_sign = 0x40

abbrev pub res_sign : ℕ
res_sign = 0x41

abbrev pub parameter_sign : ℕ
parameter_sign = 0x42

abbrev pub field_sign : ℕ
field_sign = 0x43

abbrev pub call_sign : ℕ
call_sign = 0x44

abbrev pub new_sign : ℕ
new_sign = 0x45

abbrev pub number_sign : ℕ
number_sign = 0x46

abbrev pub sum_sign : ℕ
sum_sign = 0x47

abbrev pub difference_sign : ℕ
difference_sign = 0x48

abbrev pub choose_sign : ℕ
choose_sign = 0x49

abbrev pub row : ℕ → ℕ → SignRow
row size parts = record { size = size; parts = parts }

-- the row of b, where n is the count that a call and a new object have; a call has its receiver besides
unfoldable pub sign_row : ℕ → ℕ → SignRow
sign_row b n =
    cond (eqb b this_sign) (row 1 0)
    (cond (eqb b res_sign) (row 1 0)
    (cond (eqb b parameter_sign) (row 2 0)
    (cond (eqb b field_sign) (row 2 1)
    (cond (eqb b call_sign) (row 3 (1 + n))
    (cond (eqb b new_sign) (row 3 n)
    (cond (eqb b number_sign) (row 3 0)
    (cond (eqb b sum_sign) (row 1 2)
    (cond (eqb b difference_sign) (row 1 2)
    (cond (eqb b choose_sign) (row 1 3)
    (row 0 0))))))))))

-- r is that row; no sign takes more than three bytes, and its expressions are few
pub record InTable (b n : ℕ) (r : SignRow) : Type 0 where
  pub is : r ≡ sign_row b n
  pub short : r.size ≤ 3
  pub few : r.parts ≤ 3 + n

abbrev pub sign_size : ℕ → ℕ
sign_size b = (sign_row b 0).size

abbrev pub is_variable : ℕ → Bool
is_variable b = ltb b field_sign
