-- Block 0 with one object without fields of each class 0 to 31.
use Rattle.std.specs.Prelude.{ℕ, ◌+◌, ◌*◌, ◌<◌, ◌≡◌, List, [], ◌∷◌, length, get_or}
use Rattle.canon.specs.Figures.{object_size, undetermined_code, count_at, level_at, reach_at}
use Rattle.canon.specs.Layout.{Block, count_in, level_in, Outside}
use Rattle.maker.specs.Figures.{preset_count}

-- the sixteen bytes of the object of class c without fields
abbrev pub fieldless_object : ℕ → List ℕ
fieldless_object c = c ∷ 0 ∷ undetermined_code ∷ undetermined_code ∷ undetermined_code ∷ undetermined_code ∷ 0 ∷ 0 ∷ 0 ∷ 0 ∷ 0 ∷ 0 ∷ 0 ∷ 0 ∷ 0 ∷ 0 ∷ []

-- the bytes of such a block
pub record Preset (P : List ℕ) : Type 0 where
  pub long : length P ≡ reach_at
  pub each : (c k : ℕ) → c < preset_count → k < object_size → get_or P (object_size * c + k) 0 ≡ get_or (fieldless_object c) k 0
  pub count : get_or P count_at 0 ≡ preset_count
  pub level : get_or P level_at 0 ≡ 0

-- object c of block 0 is the object of class c without fields
pub record Fieldless (W : List ℕ) : Type 0 where
  pub block : Block W 0
  pub count : count_in W 0 ≡ preset_count
  pub level : level_in W 0 ≡ 0
  pub cls : (c : ℕ) → c < preset_count → get_or W (object_size * c) 0 ≡ c
  pub fieldless : (c : ℕ) → c < preset_count → get_or W (object_size * c + 1) 0 ≡ 0

pub record LaidFieldless (W W' : List ℕ) : Type 0 where
  pub fieldless : Fieldless W'
  pub outside : Outside 0 W W'
