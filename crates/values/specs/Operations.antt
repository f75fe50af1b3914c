-- What is done with values in blocks.
use Rattle.std.specs.Prelude.{Some, None, ℕ, ◌+◌, ◌*◌, ◌<◌, ◌≡◌, List, get_or}
use Rattle.std.proofs.Math.Option.{Option, none, some}
use Rattle.std.specs.declared.option.Option.{Option as RustOption}
use Rattle.cofj.specs.Values.{Graph, select, close}
use Rattle.canon.specs.Figures.{object_size, block_size}
use Rattle.canon.specs.Layout.{count_in, level_in, reach_in, Outside}
use Rattle.canon.specs.Tables.{Filled, Carried}
use Rattle.values.specs.declared.ValueRef.{ValueRef}
use Rattle.values.specs.Layout.{value_of, Holds, Low}

-- the objects of block b, copied
pub record Taken (W : List ℕ) (b : ℕ) (I R₀ R : List ℕ) (n : ℕ) : Type 0 where
  pub count : n ≡ count_in W b
  pub ids : Filled (λ i. i) n I
  pub copy : Carried W (block_size * b) R₀ 0 (object_size * n) R

-- a reference stands for the value v in the bytes after, in block dst or below, and only block dst has changed
pub record Gives (W : List ℕ) (dst : ℕ) (W' : List ℕ) (r : ValueRef) (v : Graph) : Type 0 where
  pub held : Holds W' r
  pub is : value_of W' r ≡ v
  pub place : Low (dst + 1) r
  pub outside : Outside dst W W'

-- block dst holds the objects of block b
pub record Copied (W : List ℕ) (b dst : ℕ) (W' : List ℕ) : Type 0 where
  pub count : count_in W' dst ≡ count_in W b
  pub level : level_in W' dst ≡ level_in W b
  pub reach : reach_in W' dst ≡ reach_in W b
  pub here : (k : ℕ) → k < object_size * count_in W b → get_or W' (block_size * dst + k) 0 ≡ get_or W (block_size * b + k) 0
  pub outside : Outside dst W W'

-- an answer that may be none, as a value
abbrev pub answer_in : List ℕ → Option ValueRef → Option Graph
answer_in W (some r) = some (value_of W r)
answer_in W none = none

abbrev pub AnswerHeld : List ℕ → Option ValueRef → Type 0
AnswerHeld W (some r) = Holds W r
AnswerHeld W none = Unit {0}

abbrev pub AnswerLow : ℕ → Option ValueRef → Type 0
AnswerLow sp (some r) = Low sp r
AnswerLow sp none = Unit {0}

-- what selecting answers, as the definitions' own option
abbrev pub selected_ref : RustOption ValueRef → Option ValueRef
selected_ref (Some r) = some r
selected_ref None = none

-- field f of a value, in the same block
pub record Chosen (W : List ℕ) (v : ValueRef) (f : ℕ) (o : RustOption ValueRef) : Type 0 where
  pub held : AnswerHeld W (selected_ref o)
  pub is : answer_in W (selected_ref o) ≡ select f (value_of W v)
  pub place : (sp : ℕ) → Low sp v → AnswerLow sp (selected_ref o)

abbrev pub close_of : ℕ → Graph → Graph
close_of x v = close x v
