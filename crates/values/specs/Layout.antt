-- The value that a reference stands for, and when bytes hold it (docs/VALUES.md).
-- Not here: how objects lie in bytes (crate canon, Layout), what is done with values.
use Rattle.std.specs.Prelude.{ℕ, ◌<◌, Bool, false, List, eqb}
use Rattle.cofj.specs.Limits.{number_count}
use Rattle.cofj.specs.Values.{Graph, canon, undetermined, mark_of, number_of}
use Rattle.canon.specs.Figures.{mark_count}
use Rattle.canon.specs.Layout.{graph_at, Inside}
use Rattle.values.specs.declared.ValueRef.{ValueRef}
use Rattle.values.specs.declared.ValueRef.TheVariants.{Object, Mark, Number, Undetermined}

-- the value that a reference stands for
abbrev pub value_of : List ℕ → ValueRef → Graph
value_of W (Object i b) = canon (graph_at W b i)
value_of W (Mark k) = mark_of k
value_of W (Number n) = number_of n
value_of W Undetermined = undetermined

-- the same before it is numbered from its root
abbrev pub raw_of : List ℕ → ValueRef → Graph
raw_of W (Object i b) = graph_at W b i
raw_of W (Mark k) = mark_of k
raw_of W (Number n) = number_of n
raw_of W Undetermined = undetermined

abbrev pub HeldBy : List ℕ → ValueRef → Type 0
HeldBy W (Object i b) = Inside W b i
HeldBy W (Mark k) = k < mark_count
HeldBy W (Number n) = n < number_count
HeldBy W Undetermined = Unit {0}

-- the reference stands for a value in these bytes
pub record Holds (W : List ℕ) (r : ValueRef) : Type 0 where
  pub held : HeldBy W r

-- the value lies below block sp, if it is an object
abbrev pub Low : ℕ → ValueRef → Type 0
Low sp (Object i b) = b < sp
Low sp (Mark k) = Unit {0}
Low sp (Number n) = Unit {0}
Low sp Undetermined = Unit {0}

-- whether a value is an object of block d
unfoldable pub lies_in : ℕ → ValueRef → Bool
lies_in d (Object i b) = eqb b d
lies_in d (Mark k) = false
lies_in d (Number n) = false
lies_in d Undetermined = false
