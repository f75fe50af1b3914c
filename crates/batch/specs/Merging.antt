-- The parts that are reached, merged. Not here: how parts lie in bytes (Layout), objects (canon).
use Rattle.std.specs.declared.option.Option.{Option as RustOption}
use Rattle.std.specs.Prelude.{Some, None, ℕ, suc, ◌≤◌, ◌≡◌, List, length}
use Rattle.cofj.specs.Values.{obj, Node, graph}
use Rattle.cofj.specs.Unfolding.{SameTree}
use Rattle.cofj.specs.Formed.{AllIn}
use Rattle.cofj.specs.Batch.{PartReached, Apart}
use Rattle.canon.specs.Figures.{capacity}
use Rattle.canon.specs.Layout.{Raw}
use Rattle.canon.specs.Numbers.{graph_in}
use Rattle.batch.specs.Layout.{Lies}

-- more distinct parts are reached than a block has room for
pub record Many (ns : List Node) : Type 0 where
  pub ones : List ℕ
  pub count : length ones ≡ suc capacity
  pub reached : AllIn (PartReached ns) ones
  pub apart : Apart ns ones

-- k objects in R, which unfold from the first on as the parts ns do from part 0 on
pub record Quotient (ns : List Node) (R : List ℕ) (k : ℕ) : Type 0 where
  pub some_object : 1 ≤ k
  pub raw : Raw R k
  pub tree : SameTree (graph_in R k 0) (graph (obj 0) ns)

-- the parts P, merged in R: k objects, or too many
pub record Merged (P R : List ℕ) (o : RustOption ℕ) : Type 0 where
  pub least : (k : ℕ) → o ≡ Some k → k ≤ capacity
  pub many : (ns : List Node) → Lies P ns → o ≡ None → Many ns
  pub few : (ns : List Node) → Lies P ns → (k : ℕ) → o ≡ Some k → Quotient ns R k
