-- New objects that stand in block 0 from the start: what the test tells.
-- Not here: how they got there (crate maker, FieldlessLaws).
use Rattle.std.proofs.Common.{ℕ, ◌<◌, ◌≡◌, refl, Bool, true, false, List, eqb, ltb, eqb-true, ltb-true}
use Rattle.std.proofs.Math.Bool.{false≢true}
use Rattle.classes.specs.Machine.{pick, total_of}
use Rattle.maker.specs.Figures.{preset_count}
use Rattle.evaluator.specs.Preset.{is_preset}

module _ (T : List ℕ) (c n : ℕ) where
  -- what the test tells
  pub record Told : Type 0 where
    pub none : n ≡ 0
    pub low : c < preset_count
    pub total : total_of T c ≡ 0

  pub told : is_preset T c n ≡ true → Told
  unfolding is_preset
  told e = go (eqb n 0) refl (ltb c preset_count) refl (eqb (total_of T c) 0) refl e
    where
      go : (x : Bool) → eqb n 0 ≡ x → (y : Bool) → ltb c preset_count ≡ y → (z : Bool) → eqb (total_of T c) 0 ≡ z → pick x (pick y z false) false ≡ true → Told
      go true ex true ey true ez h = record { none = eqb-true n 0 ex; low = ltb-true c preset_count ey; total = eqb-true (total_of T c) 0 ez }
      go true ex true ey false ez h = absurd (false≢true h)
      go true ex false ey z ez h = absurd (false≢true h)
      go false ex y ey z ez h = absurd (false≢true h)
