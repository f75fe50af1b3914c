-- The limit on objects: one law for each return of `fits` and of `make`, and that an object without fields is within every limit.
-- Not here: how an object is made (Beside, Tries, Hosts).
use Rattle.std.proofs.Common.{ℕ, zero, suc, ◌+◌, ◌*◌, ◌≤◌, ◌<◌, arith, ◌≡◌, refl, sym, ap, ◌∙◌, subst, Bool, true, false, cond, List, [], ◌∷◌, leb, length, get_or, le-leb, leb-false, ne_eqb}
use Rattle.std.proofs.Math.Option.{some, none, none-ne-some}
use Rattle.std.proofs.Math.ListN.{get_elem?}
use borrow.Author.Tests.{lt-leb, eqb-false}
use Rattle.cofj.specs.Values.{Ref, obj, node, Graph, graph, refs_at, make, lay, canon}
use Rattle.cofj.specs.Unfolding.{follow, Whole, InRange}
use Rattle.cofj.proofs.Canon.{canon_same, canon-whole, canon-length}
use Rattle.cofj.proofs.Unique.{same_canon}
use Rattle.canon.specs.Figures.{capacity, count_at, block_size, spare_block}
use Rattle.canon.specs.Layout.{ref_of, count_in, objects_in, graph_at, Block, Inside, Outside, Beneath}
use Rattle.canon.proofs.Nodes.{ref_object}
use Rattle.values.specs.declared.ValueRef.{ValueRef}
use Rattle.values.specs.declared.ValueRef.TheVariants.{Object, Mark, Number, Undetermined}
use Rattle.values.specs.Layout.{value_of, Holds, Low, lies_in}
use Rattle.values.proofs.Blocks.{no_object, size_in, whole_at}
use Rattle.values.proofs.Kept.{Kept, kept}
use Rattle.std.specs.declared.option.Option.{Option as RustOption}
use Rattle.std.specs.declared.option.Option.TheVariants.{Some, None}
use Rattle.maker.specs.Laying.{Makeable, MadeWithin, MadeIs, FitsIn}
use Rattle.maker.specs.Adding.{Emptied}
use Rattle.maker.specs.Crowds.{In, BlockIn}
use Rattle.maker.specs.Merging.{Imported}
use Rattle.maker.proofs.Makes.{beneath_more}
use Rattle.maker.proofs.Beside.{outside_more}
use Rattle.maker.proofs.Crowds.{pigeon, Numbered, in_number, crowd_large, in_root}
use Rattle.maker.proofs.Hosts.{empty_begun}

outside_none : (b : ℕ) (W : List ℕ) → Outside b W W
outside_none b W = record { same = refl; below = λ p h. refl; above = λ p h. refl }

-- ---- whether a value has at most so many objects
module _ (W : List ℕ) (objects : ℕ) (v : ValueRef) where
  pub fits_leaf : ((i b : ℕ) → v ≡ Object i b → ⊥) → FitsIn W v objects W true
  fits_leaf h =
      let e : true ≡ leb 0 objects = sym (le-leb 0 objects (omega arith)) in
      no_object (λ x. FitsIn W x objects W true) (λ k. record { is = e; outside = outside_none spare_block W }) (λ n. record { is = e; outside = outside_none spare_block W }) (record { is = e; outside = outside_none spare_block W }) v h

  module _ (b i : ℕ) (e : v ≡ Object i b) where
    pub count_read : Holds W v → block_size * b + count_at < length W
    count_read h = omega (arith, (subst (Holds W) e h).held.block.room)

    pub fits_block : Holds W v → get_or W (block_size * b + count_at) 0 ≤ objects → FitsIn W v objects W true
    unfolding count_in
    fits_block h l =
        let ob = (subst (Holds W) e h).held in
        subst (λ (x : ValueRef). FitsIn W x objects W true) (sym e) (record {
          is = sym (le-leb _ objects (omega (arith, canon-length (graph_at W b i) (whole_at W b ob.block i ob.low), size_in W b ob.block)));
          outside = outside_none spare_block W;
        })

    -- brought into the spare block, which was emptied
    module _ (h : Holds W v) (away : lies_in spare_block v ≡ false) (room : block_size * spare_block + block_size ≤ length W) (W1 : List ℕ) (em : Emptied W spare_block W1) where
      still_there : Kept W W1 v
      still_there = kept spare_block W W1 em.outside v away h

      pub spare_inside : Inside W1 b i
      spare_inside = (subst (Holds W1) e still_there.held).held

      pub spare_empty : Block W1 spare_block
      spare_empty = (empty_begun W spare_block W1 room em).target

      pub spare_other : b ≡ spare_block → ⊥
      unfolding lies_in
      spare_other z = eqb-false b spare_block (subst (λ (x : ValueRef). lies_in spare_block x ≡ false) e away) z

      abbrev value : Graph
      value = canon (graph_at W1 b i)

      value_is : value ≡ value_of W v
      value_is = ap (value_of W1) (sym e) ∙ still_there.is

      graph-whole : Whole (graph_at W1 b i)
      graph-whole = whole_at W1 b spare_inside.block i spare_inside.low

      value_whole : Whole value
      value_whole = canon-whole (graph_at W1 b i) graph-whole

      stands : In (objects_in W1 b) i value
      stands = in_root value (objects_in W1 b) i (λ p. sym (canon_same (graph_at W1 b i) graph-whole p))

      none_in : BlockIn W1 spare_block value
      none_in y l = absurd (omega (arith, em.count))

      module _ (W2 : List ℕ) (a : RustOption ℕ) (im : Imported W1 b i spare_block W2 a) where
        away_still : Outside spare_block W W2
        away_still = outside_more spare_block W W1 W2 em.outside im.grown.outside

        answers : (x : Bool) → x ≡ leb (length value.nodes) objects → FitsIn W v objects W2 x
        answers x z = record { is = z ∙ ap (λ (g : Graph). leb (length g.nodes) objects) value_is; outside = away_still }

        pub fits-over : objects ≤ capacity → a ≡ None → FitsIn W v objects W2 false
        fits-over few z =
            answers false (sym (lt-leb (length value.nodes) objects (omega (arith, crowd_large value value_whole (im.over z value none_in stands)))))

        pub spare_length : length W2 ≡ length W
        spare_length = away_still.same

        pub spare_read : block_size * spare_block + count_at < length W2
        spare_read = omega (arith, im.grown.block.room)

        module _ (r : ℕ) (nr : a ≡ Some r) where
          brought : BlockIn W2 spare_block value
          brought = im.stand r nr value none_in stands

          number : (k : ℕ) → k < count_in W2 spare_block → Numbered (objects_in W2 spare_block) k value
          number k l = in_number (objects_in W2 spare_block) k value value_whole (brought k l)

          size : length (objects_in W2 spare_block) ≡ count_in W2 spare_block
          size = size_in W2 spare_block im.grown.block

          most : count_in W2 spare_block ≤ length value.nodes
          most =
              pigeon (count_in W2 spare_block) (length value.nodes) (λ k l. (number k l).at) (λ k l. (number k l).low)
              (λ j k l u q. im.grown.block.distinct.apart j k (omega (arith, size)) (omega (arith, size))
              (λ p. (number j l).same p ∙ ap (λ (x : ℕ). follow value.nodes (obj x) p) q ∙ sym ((number k u).same p)))

          -- what is in the spare block is the value
          abbrev there : Graph
          there = graph (ref_of r 0) (objects_in W2 spare_block)

          there_whole : Whole there
          there_whole = record { top = subst (λ (n : ℕ). InRange n (ref_of r 0)) (sym size) ((im.like r nr).low 0); inner = im.grown.block.whole.inner }

          after : Kept W1 W2 v
          after = kept spare_block W1 W2 im.grown.outside v away still_there.held

          inside_after : Inside W2 b i
          inside_after = (subst (Holds W2) e after.held).held

          value_there : value ≡ canon there
          value_there =
              sym (ap (value_of W2) (sym e) ∙ after.is ∙ ap (value_of W1) e)
              ∙ same_canon (graph_at W2 b i) there (whole_at W2 b inside_after.block i inside_after.low) there_whole
              (λ p. ap (λ (x : Ref). follow (objects_in W2 b) x p) (sym (ref_object i 0 (omega (arith, inside_after.low, inside_after.block.small)))) ∙ (im.like r nr).same 0 p)

          least : length value.nodes ≤ count_in W2 spare_block
          least = omega (arith, ap (λ (g : Graph). length g.nodes) value_there, canon-length there there_whole, size)

          pub fits-counted : FitsIn W v objects W2 (leb (get_or W2 (block_size * spare_block + count_at) 0) objects)
          unfolding count_in
          fits-counted = answers _ (ap (λ (n : ℕ). leb n objects) (let z : count_in W2 spare_block ≡ length value.nodes = omega (arith, most, least) in z))

-- ---- what making answers
-- the value that an answer stands for
made_value : (v g : Graph) (b : Bool) → some v ≡ cond b (some g) none → v ≡ g
made_value v g true e = let y : some v ≡ some g = e in cc
made_value v g false e = absurd (none-ne-some v (sym e))

made_none : (g : Graph) (n : ℕ) → none ≡ cond (leb (length g.nodes) n) (some g) none → n < length g.nodes
made_none g n e = go (leb (length g.nodes) n) refl e
  where
    go : (b : Bool) → leb (length g.nodes) n ≡ b → none ≡ cond b (some g) none → n < length g.nodes
    go true q z = absurd (none-ne-some g z)
    go false q z = leb-false (length g.nodes) n q

low_away : (d : ℕ) (r : ValueRef) → d < spare_block → Low (d + 1) r → lies_in spare_block r ≡ false
unfolding lies_in
low_away d (Object i b) h l = ne_eqb b spare_block (λ e. omega arith)
low_away d (Mark k) h l = refl
low_away d (Number x) h l = refl
low_away d Undetermined h l = refl

module _ (W : List ℕ) (ps : List ValueRef) (n dst : ℕ) (mk : Makeable W ps n dst) (v : Graph) (W1 : List ℕ) where
  module _ (objects : ℕ) (few : objects ≤ capacity) where
    pub limit_none : MadeIs W v dst W1 None → MadeWithin objects W v dst W1 None
    limit_none k =
        let l : objects < length v.nodes = omega (arith, made_none v capacity k.is) in
        record { held = tt; is = rw (lt-leb (length v.nodes) objects l); place = tt; beneath = k.beneath }

  module _ (r : ValueRef) (answer : MadeIs W v dst W1 (Some r)) where
    pub limit_held : Holds W1 r
    limit_held = answer.held

    pub limit_away : lies_in spare_block r ≡ false
    limit_away = low_away dst r mk.under answer.place

    pub limit_room : block_size * spare_block + block_size ≤ length W1
    limit_room = omega (arith, mk.room, answer.beneath.same)

    module _ (objects : ℕ) (W2 : List ℕ) (b : Bool) (f : FitsIn W1 r objects W2 b) where
      same : value_of W1 r ≡ v
      same = made_value (value_of W1 r) v (leb (length v.nodes) capacity) answer.is

      told : b ≡ leb (length v.nodes) objects
      told = f.is ∙ ap (λ (g : Graph). leb (length g.nodes) objects) same

      still : Beneath dst W W2
      still = beneath_more dst W W1 W2 answer.beneath (let u = mk.under in record { same = f.outside.same; below = λ p h. f.outside.below p (omega arith) })

      pub limit_yes : b ≡ true → MadeWithin objects W v dst W2 (Some r)
      limit_yes z =
          let k = kept spare_block W1 W2 f.outside r limit_away answer.held in
          record { held = k.held; is = rw (sym told ∙ z) (ap some (k.is ∙ same)); place = answer.place; beneath = still }

      pub limit_no : b ≡ false → MadeWithin objects W v dst W2 None
      limit_no z = record { held = tt; is = rw (sym told ∙ z); place = tt; beneath = still }

-- ---- an object without fields
fieldless_whole : (c : ℕ) → Whole (graph (obj 0) (node c [] ∷ []))
fieldless_whole c = record { top = omega arith; inner = inner }
  where
    inner : (i f : ℕ) (r : Ref) → get_elem? (refs_at (node c [] ∷ []) i) f ≡ some r → InRange 1 r
    inner zero f r e = absurd (none-ne-some r e)
    inner (suc i) f r e = absurd (none-ne-some r e)

fieldless_one : (c : ℕ) → length (make c []).nodes ≤ 1
unfolding make lay
fieldless_one c = canon-length (graph (obj 0) (node c [] ∷ [])) (fieldless_whole c)

pub fieldless_within : (objects : ℕ) → 0 < objects → (W : List ℕ) (c dst : ℕ) (W' : List ℕ) (r : ValueRef) → MadeIs W (make c []) dst W' (Some r) → MadeWithin objects W (make c []) dst W' (Some r)
fieldless_within objects pos W c dst W' r m = record {
  held = m.held;
  is = rw (le-leb (length (make c []).nodes) objects (omega (arith, fieldless_one c))) (ap some (made_value (value_of W' r) (make c []) (leb (length (make c []).nodes) capacity) m.is));
  place = m.place;
  beneath = m.beneath;
}
