-- Which new objects stand in block 0 from the start.
-- Not here: that they do (crate maker, Fieldless).
use Rattle.std.specs.Prelude.{ℕ, Bool, false, List, eqb, ltb}
use Rattle.classes.specs.Machine.{pick, total_of}
use Rattle.maker.specs.Figures.{preset_count}

-- an object of class c with n values: c is one of the first classes and has no fields, and there are no values
unfoldable pub is_preset : List ℕ → ℕ → ℕ → Bool
is_preset T c n = pick (eqb n 0) (pick (ltb c preset_count) (eqb (total_of T c) 0) false) false
