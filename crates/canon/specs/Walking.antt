-- The walk of the objects that have colours, over bytes: cofj's `visit`.
use Rattle.std.specs.Prelude.{ℕ, ◌+◌, ◌≤◌, ◌<◌, ◌≡◌, cond, List, length, get_or, take, drop}
use Rattle.cofj.specs.Values.{is_in, place_in, visit, visit_all, refs_at}
use Rattle.canon.specs.Layout.{ref_of, nodes_in, Codes}
use Rattle.canon.specs.Tables.{Below}

-- the order after a code, whatever number is beside it, and after the fields of object c from field f on
unfoldable pub walk_ref : List ℕ → List ℕ → ℕ → ℕ → List ℕ → List ℕ
walk_ref N C k r s = visit (nodes_in N 0 (length C)) C k (ref_of r 0) s

unfoldable pub walk_fields : List ℕ → List ℕ → ℕ → ℕ → ℕ → List ℕ → List ℕ
walk_fields N C k c f s = visit_all (λ r t. visit (nodes_in N 0 (length C)) C k r t) (drop f (refs_at (nodes_in N 0 (length C)) c)) s

-- a colour's place in the order and one, 0 if it is not there
unfoldable pub mark_in : ℕ → List ℕ → ℕ
unfolding is_in place_in
mark_in c s = cond (is_in c s) (place_in c s + 1) 0

-- the order has m of the colours of n objects, and the table their places
pub record Listed (n : ℕ) (O T : List ℕ) (m : ℕ) : Type 0 where
  pub few : m ≤ n
  pub entry : (c : ℕ) → c < n → get_or T c 0 ≡ mark_in c (take m O)

-- the objects that have colours, and room for the order and the table
pub record Walkable (N C O T : List ℕ) : Type 0 where
  pub codes : Codes N (length C)
  pub colours : Below (length C) C
  pub order : length C ≤ length O
  pub met : length C ≤ length T
