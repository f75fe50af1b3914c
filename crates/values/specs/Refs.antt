-- References to values: of a code of a block, and as one number.
use Rattle.std.specs.Prelude.{ℕ, ◌-◌, ◌/◌, ◌%◌, ◌<◌, cond, ◌≡◌, eqb, ltb}
use Rattle.canon.specs.Figures.{first_leaf, undetermined_code, number_code, first_mark}
use Rattle.values.specs.declared.ValueRef.{ValueRef}
use Rattle.values.specs.declared.ValueRef.TheVariants.{Object, Mark, Number, Undetermined}

-- the value of block b and code c, with the number n beside it
unfoldable pub ref_from : ℕ → ℕ → ℕ → ValueRef
ref_from b c n = cond (ltb c first_leaf) (Object c b) (cond (eqb c undetermined_code) Undetermined (cond (eqb c number_code) (Number n) (Mark (c - first_mark))))

-- the value of kind k that is no object, by what it holds
unfoldable pub other_from : ℕ → ℕ → ℕ → ValueRef
other_from k i b = cond (eqb k 1) (Mark i) (cond (eqb k 3) (Number b) Undetermined)

-- which of the four the value is that a number stands for: its lowest byte
abbrev pub kind_in : ℕ → ℕ
kind_in x = x % 256

-- the value that a number stands for
unfoldable pub ref_in : ℕ → ValueRef
unfolding other_from
ref_in x = cond (eqb (kind_in x) 0) (Object (x / 256 % 256) (x / 65536)) (other_from (kind_in x) (x / 256 % 256) (x / 65536))

-- x is the number of a value that is no object
abbrev pub OtherIn : ValueRef → ℕ → Type 0
OtherIn (Object i b) x = Unit {0}
OtherIn (Mark k) x = ref_in x ≡ Mark k
OtherIn (Number n) x = ref_in x ≡ Number n
OtherIn Undetermined x = ref_in x ≡ Undetermined

pub record OtherPacked (v : ValueRef) (x : ℕ) : Type 0 where
  pub is : OtherIn v x
  pub small : kind_in x < 4
