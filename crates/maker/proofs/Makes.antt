-- Laws of the parts of a new object, of their values, and of what making answers. Not here: the objects that are looked for and added (Merges).
use Rattle.std.proofs.Common.{ℕ, zero, suc, ◌<◌, ◌≤◌, arith, ◌≡◌, refl, sym, ap, ◌∙◌, subst, List, [], ◌∷◌, map, length, get_or, take, length-take-le, le-leb}
use Rattle.std.proofs.Math.Option.{some, none-ne-some}
use Rattle.std.proofs.Math.ListN.{length-map}
use Rattle.cofj.specs.Values.{Graph, make, canon}
use Rattle.cofj.specs.Unfolding.{SameTree, Whole, AllWhole}
use Rattle.cofj.proofs.Canon.{canon_same, canon-whole, canon-length}
use Rattle.canon.specs.Figures.{mark_count, capacity}
use Rattle.values.specs.declared.ValueRef.{ValueRef}
use Rattle.values.specs.declared.ValueRef.TheVariants.{Object, Mark, Number, Undetermined}
use Rattle.std.specs.declared.option.Option.TheVariants.{Some}
use Rattle.canon.specs.Layout.{Inside, graph_at, Beneath}
use Rattle.values.specs.Layout.{value_of, raw_of, Holds, HeldBy}
use Rattle.maker.specs.Adding.{part_of}
use Rattle.values.specs.Operations.{Gives}
use Rattle.maker.specs.Laying.{values_from, raws_from, PartsHeld, MadeIs}
use Rattle.values.proofs.Blocks.{whole_at, size_in}
use Rattle.values.proofs.Selecting.{unchanged, under}
use Rattle.values.proofs.Trees.{AllSame, same_make}

-- ---- the parts
pub mark_small : (W : List ℕ) (r : ValueRef) (k : ℕ) → Holds W r → r ≡ Mark k → k < mark_count
mark_small W r k h e = subst (HeldBy W) e h.held

abbrev pub no_part : ValueRef
no_part = Object 0 0

-- a part read is held
pub part_held : (W : List ℕ) (ps : List ValueRef) (n i : ℕ) (v : ValueRef) → PartsHeld W ps n → i < n → v ≡ part_of ps i → Holds W v
part_held W ps n i v h l e = subst (Holds W) (sym e) (h.part i l)

pub parts_length : (W : List ℕ) (ps : List ValueRef) (n : ℕ) → PartsHeld W ps n → length (raws_from W ps 0 n) ≡ n
unfolding raws_from
parts_length W ps n h = length-map (take n ps) (raw_of W) ∙ length-take-le n ps h.full

-- ---- their values
pub raw-whole : (W : List ℕ) (r : ValueRef) → Holds W r → Whole (raw_of W r)
raw-whole W (Object i b) h = whole_at W b h.held.block i h.held.low
raw-whole W (Mark k) h = record { top = tt; inner = λ i f r e. absurd (none-ne-some r e) }
raw-whole W (Number x) h = record { top = tt; inner = λ i f r e. absurd (none-ne-some r e) }
raw-whole W Undetermined h = record { top = tt; inner = λ i f r e. absurd (none-ne-some r e) }

value_whole : (W : List ℕ) (r : ValueRef) → Holds W r → Whole (value_of W r)
value_whole W (Object i b) h = canon-whole (graph_at W b i) (raw-whole W (Object i b) h)
value_whole W (Mark k) h = raw-whole W (Mark k) h
value_whole W (Number x) h = raw-whole W (Number x) h
value_whole W Undetermined h = raw-whole W Undetermined h

value_tree : (W : List ℕ) (r : ValueRef) → Holds W r → SameTree (value_of W r) (raw_of W r)
value_tree W (Object i b) h = canon_same (graph_at W b i) (raw-whole W (Object i b) h)
value_tree W (Mark k) h = λ p. refl
value_tree W (Number x) h = λ p. refl
value_tree W Undetermined h = λ p. refl

-- each part by itself
module _ (W : List ℕ) where
  all_raw : (n : ℕ) (ps : List ValueRef) → ((i : ℕ) → i < n → Holds W (get_or ps i no_part)) → AllWhole (map (raw_of W) (take n ps))
  all_raw zero ps h = tt
  all_raw (suc n) [] h = tt
  all_raw (suc n) (s ∷ ps) h = (raw-whole W s (h 0 (omega arith)), all_raw n ps (λ i l. h (suc i) (omega arith)))

  all_value : (n : ℕ) (ps : List ValueRef) → ((i : ℕ) → i < n → Holds W (get_or ps i no_part)) → AllWhole (map (value_of W) (take n ps))
  all_value zero ps h = tt
  all_value (suc n) [] h = tt
  all_value (suc n) (s ∷ ps) h = (value_whole W s (h 0 (omega arith)), all_value n ps (λ i l. h (suc i) (omega arith)))

  all_tree : (n : ℕ) (ps : List ValueRef) → ((i : ℕ) → i < n → Holds W (get_or ps i no_part)) → AllSame (map (value_of W) (take n ps)) (map (raw_of W) (take n ps))
  all_tree zero ps h = tt
  all_tree (suc n) [] h = tt
  all_tree (suc n) (s ∷ ps) h = (value_tree W s (h 0 (omega arith)), all_tree n ps (λ i l. h (suc i) (omega arith)))

module _ (W : List ℕ) (c : ℕ) (ps : List ValueRef) (n : ℕ) (held : PartsHeld W ps n) where
  pub raws_whole : AllWhole (raws_from W ps 0 n)
  unfolding raws_from
  raws_whole = all_raw W n ps held.part

  -- the new object is the same over the graphs as over the values
  pub made_raw : make c (values_from W ps 0 n) ≡ make c (raws_from W ps 0 n)
  unfolding raws_from values_from
  made_raw = same_make c _ _ (all_value W n ps held.part) (all_raw W n ps held.part) (all_tree W n ps held.part)

-- ---- made
pub beneath_more : (dst : ℕ) (W W1 W2 : List ℕ) → Beneath dst W W1 → Beneath dst W1 W2 → Beneath dst W W2
beneath_more dst W W1 W2 a b = record { same = b.same ∙ a.same; below = λ p h. b.below p h ∙ a.below p h }

-- the value of object i of block b
module _ (W W1 : List ℕ) (v : Graph) (dst b i : ℕ) (ob : Inside W1 b i) (e : v ≡ canon (graph_at W1 b i)) (bn : Beneath dst W W1) where
  whole : Whole (graph_at W1 b i)
  whole = whole_at W1 b ob.block i ob.low

  -- brought down
  pub made_brought : (W2 : List ℕ) (r : ValueRef) → Gives W1 dst W2 r (canon (graph_at W1 b i)) → MadeIs W v dst W2 (Some r)
  made_brought W2 r g =
      let l : length v.nodes ≤ capacity = omega (arith, ap (λ (x : Graph). length x.nodes) e, canon-length (graph_at W1 b i) whole, size_in W1 b ob.block, ob.block.small) in
      record {
        held = g.held;
        is = rw (le-leb _ capacity l) (ap some (g.is ∙ sym e));
        place = g.place;
        beneath = beneath_more dst W W1 W2 bn (under dst W1 W2 g.outside);
      }

  -- where it is
  pub made_here : b ≤ dst → MadeIs W v dst W1 (Some (Object i b))
  made_here l = made_brought W1 (Object i b) (record { held = record { held = ob }; is = refl; place = omega arith; outside = unchanged dst W1 })
