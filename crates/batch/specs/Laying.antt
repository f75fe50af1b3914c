-- The parts that lead colours, laid as objects. Not here: the colours (Colouring), what the objects unfold to (Merging).
use Rattle.std.specs.Prelude.{ℕ, ◌+◌, ◌*◌, ◌≤◌, ◌<◌, ◌≡◌, List, length, get_or}
use Rattle.canon.specs.Figures.{object_size, numbers_at}
use Rattle.batch.specs.Figures.{part_size}
use Rattle.batch.specs.Colouring.{shade_in}

-- the first j bytes of part p, as they look, are those of object c in R, and so are its numbers; the objects before it are R₀'s
pub record PartLaid (P C : List ℕ) (p : ℕ) (R₀ : List ℕ) (c j : ℕ) (R : List ℕ) : Type 0 where
  pub same : length R ≡ length R₀
  pub here : (f : ℕ) → f < j → get_or R (object_size * c + f) 0 ≡ shade_in C f (get_or P (part_size * p + f) 0)
  pub rest : (f : ℕ) → numbers_at ≤ f → f < object_size → get_or R (object_size * c + f) 0 ≡ get_or P (part_size * p + f) 0
  pub below : (q : ℕ) → q < object_size * c → get_or R q 0 ≡ get_or R₀ q 0

-- the parts that lead the first k colours are the first k objects of R, which has R₀'s length
pub record Laid (P C D : List ℕ) (k : ℕ) (R₀ R : List ℕ) : Type 0 where
  pub same : length R ≡ length R₀
  pub here : (c f : ℕ) → c < k → f < object_size → get_or R (object_size * c + f) 0 ≡ shade_in C f (get_or P (part_size * get_or D c 0 + f) 0)
