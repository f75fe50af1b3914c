-- A new object: its parts, what making asks, and what it answers.
use Rattle.std.specs.Prelude.{ℕ, ◌+◌, ◌*◌, ◌≤◌, ◌<◌, ◌≡◌, Bool, cond, List, map, leb, length, get_or, take, drop}
use Rattle.std.proofs.Math.Option.{none, some}
use Rattle.std.specs.declared.option.Option.{Option as RustOption}
use Rattle.cofj.specs.Values.{Graph}
use Rattle.canon.specs.Figures.{code_count, capacity, block_size, spare_block}
use Rattle.canon.specs.Layout.{Beneath, Outside}
use Rattle.values.specs.declared.ValueRef.{ValueRef}
use Rattle.values.specs.declared.ValueRef.TheVariants.{Object}
use Rattle.values.specs.Layout.{value_of, raw_of, Holds, Low}
use Rattle.values.specs.Operations.{answer_in, AnswerHeld, AnswerLow, selected_ref}

-- the values of parts i to n
unfoldable pub values_from : List ℕ → List ValueRef → ℕ → ℕ → List Graph
values_from W ps i n = map (value_of W) (drop i (take n ps))

-- the same before they are numbered from their roots
unfoldable pub raws_from : List ℕ → List ValueRef → ℕ → ℕ → List Graph
raws_from W ps i n = map (raw_of W) (drop i (take n ps))

-- each of the first n parts stands for a value
pub record PartsHeld (W : List ℕ) (ps : List ValueRef) (n : ℕ) : Type 0 where
  pub full : n ≤ length ps
  pub part : (i : ℕ) → i < n → Holds W (get_or ps i (Object 0 0))

-- what making asks: the parts stand for values, and they and dst lie below the spare block
pub record Makeable (W : List ℕ) (ps : List ValueRef) (n dst : ℕ) : Type 0 where
  pub held : PartsHeld W ps n
  pub few : n ≤ code_count
  pub below : (i : ℕ) → i < n → Low spare_block (get_or ps i (Object 0 0))
  pub under : dst < spare_block
  pub room : block_size * spare_block + block_size ≤ length W

-- what making answers: the value v, in block dst or below, unless it has more than `objects` objects; what lies below block dst is as before
pub record MadeWithin (objects : ℕ) (W : List ℕ) (v : Graph) (dst : ℕ) (W' : List ℕ) (o : RustOption ValueRef) : Type 0 where
  pub held : AnswerHeld W' (selected_ref o)
  pub is : answer_in W' (selected_ref o) ≡ cond (leb (length v.nodes) objects) (some v) none
  pub place : AnswerLow (dst + 1) (selected_ref o)
  pub beneath : Beneath dst W W'

-- unless it has more than a block has room for
abbrev pub MadeIs : List ℕ → Graph → ℕ → List ℕ → RustOption ValueRef → Type 0
MadeIs W v dst W' o = MadeWithin capacity W v dst W' o

-- whether a value has at most `objects` objects; only the spare block has changed
pub record FitsIn (W : List ℕ) (r : ValueRef) (objects : ℕ) (W' : List ℕ) (b : Bool) : Type 0 where
  pub is : b ≡ leb (length (value_of W r).nodes) objects
  pub outside : Outside spare_block W W'
