-- One round of colours, over bytes.
use Rattle.std.specs.Prelude.{ℕ, ◌*◌, ◌≤◌, ◌<◌, List, length}
use Rattle.cofj.specs.Values.{place_of}
use Rattle.canon.specs.Figures.{object_size}
use Rattle.canon.specs.Layout.{node_in, nodes_in, Packed}

-- n objects from the start on, whatever their codes name
pub record Looks (L : List ℕ) (n : ℕ) : Type 0 where
  pub room : object_size * n ≤ length L
  pub packed : (i : ℕ) → i < n → Packed L (object_size * i)

-- the first of n objects that is as object i
unfoldable pub place_is : List ℕ → ℕ → ℕ → ℕ
place_is L n i = place_of (node_in L (object_size * i)) (nodes_in L 0 n)
