-- Laws of a block copied as it is, of a value brought down, and of objects in which a mark does not occur.
use Rattle.std.proofs.Common.{ℕ, ◌+◌, ◌*◌, ◌<◌, ◌≤◌, arith, ◌≡◌, refl, sym, ap, ◌∙◌, subst, Bool, true, false, List, [], length, get_or, set, length-set, get_or-set_same, get_or-set_other, ne_eqb}
use native.Mathlib.Decide.{dec_lt, ℕ_discrete}
use Rattle.std.proofs.Math.Option.{some, none-ne-some}
use Rattle.std.proofs.Math.ListN.{get_elem?, get_or-eq_default}
use Rattle.cofj.specs.Values.{Ref, obj, leaf, mark, undet, num, Node, node, graph, rename, refs_at, node_at, canon, bind}
use Rattle.cofj.specs.Unfolding.{Whole}
use Rattle.cofj.proofs.Operations.{bound_nodes}
use Rattle.canon.specs.Figures.{object_size, head_size, code_count, capacity, objects_size, count_at, level_at, reach_at, block_size}
use Rattle.canon.specs.Layout.{code_of, nodes_in, Distinct, Block, Inside, objects_in, count_in, level_in, reach_in, ended}
use Rattle.canon.specs.Tables.{Carried}
use Rattle.canon.proofs.Nodes.{at_some, packed_same, nodes_same, length_nodes, code_is, four_fields, ended_size, ended_below, ended-above, ended-count, ended_level, ended_reach}
use Rattle.canon.proofs.Turned.{nodes_agree}
use Rattle.values.specs.declared.ValueRef.{ValueRef}
use Rattle.values.specs.declared.ValueRef.TheVariants.{Object}
use Rattle.values.specs.Layout.{value_of, Holds}
use Rattle.values.specs.Operations.{Gives, Copied}
use Rattle.values.proofs.Blocks.{held_inside, nodes_id}

-- the copying of n objects with the level l and the reach m has come to byte q of p
pub record CopyLoop (W : List ℕ) (b dst n l m p q : ℕ) (D : List ℕ) : Type 0 where
  pub count : n ≡ get_or W (block_size * b + count_at) 0
  pub level : l ≡ get_or W (block_size * b + level_at) 0
  pub reach : m ≡ get_or W (block_size * b + reach_at) 0
  pub size : p ≡ object_size * n
  pub copying : Carried W (block_size * b) W (block_size * dst) q D

pub copy_none : (W : List ℕ) (b dst n l m p : ℕ) → n ≡ get_or W (block_size * b + count_at) 0 → l ≡ get_or W (block_size * b + level_at) 0 → m ≡ get_or W (block_size * b + reach_at) 0 → p ≡ object_size * n → CopyLoop W b dst n l m p 0 W
copy_none W b dst n l m p en el er ep = record { count = en; level = el; reach = er; size = ep; copying = record { same = refl; here = λ k h. absurd (omega arith); below = λ y h. refl; above = λ y h. refl } }

module _ (W : List ℕ) (b dst n l m p q : ℕ) (D : List ℕ) (bk : Block W b) (room : block_size * dst + block_size ≤ length W) (c : CopyLoop W b dst n l m p q D) where
  few : get_or W (block_size * b + count_at) 0 ≤ capacity
  unfolding count_in
  few = bk.small

  cp : Carried W (block_size * b) W (block_size * dst) q D
  cp = c.copying

  pub copy_step : q < p → CopyLoop W b dst n l m p (q + 1) (set D (block_size * dst + q) (get_or D (block_size * b + q) 0))
  copy_step h = record {
    count = c.count;
    level = c.level;
    reach = c.reach;
    size = c.size;
    copying = record {
      same = length-set D (block_size * dst + q) _ ∙ cp.same;
      here = λ k l. go k l (ℕ_discrete k q);
      below = λ y l. get_or-set_other D (block_size * dst + q) y _ 0 (λ z. omega arith) ∙ cp.below y l;
      above = λ y l. get_or-set_other D (block_size * dst + q) y _ 0 (λ z. omega arith) ∙ cp.above y (omega arith);
    };
  }
    where
      low : q < objects_size
      low = omega (arith, few, c.count, c.size)

      stays : Dec (b < dst) → get_or D (block_size * b + q) 0 ≡ get_or W (block_size * b + q) 0
      stays (yes l) = cp.below (block_size * b + q) (omega (arith, low))
      stays (no l) = cp.above (block_size * b + q) (omega (arith, l))

      go : (k : ℕ) → k < q + 1 → Dec (k ≡ q) → get_or (set D (block_size * dst + q) (get_or D (block_size * b + q) 0)) (block_size * dst + k) 0 ≡ get_or W (block_size * b + k) 0
      go k l (yes z) = rw z (get_or-set_same D (block_size * dst + q) _ 0 (omega (arith, cp.same, low)) ∙ stays (dec_lt b dst))
      go k l (no z) = get_or-set_other D (block_size * dst + q) (block_size * dst + k) _ 0 (λ y. z (omega arith)) ∙ cp.here k (omega (arith, z))

  wide : block_size * dst + block_size ≤ length D
  wide = omega (arith, cp.same)

  pub copy_end : q ≤ p → p ≤ q → Copied W b dst (ended D dst n l m)
  unfolding count_in level_in reach_in
  copy_end top h = record {
    count = ended-count D dst n l m wide ∙ c.count;
    level = ended_level D dst n l m wide ∙ c.level;
    reach = ended_reach D dst n l m wide ∙ c.reach;
    here = λ k y. ended_below D dst n l m wide (block_size * dst + k) (omega (arith, few)) ∙ cp.here k (omega (arith, c.count, c.size));
    outside = record {
      same = ended_size D dst n l m wide ∙ cp.same;
      below = λ k y. ended_below D dst n l m wide k (omega arith) ∙ cp.below k y;
      above = λ k y. ended-above D dst n l m wide k (omega arith) ∙ cp.above k (omega (arith, few, top, c.count, c.size));
    };
  }

-- ---- the block that holds the copy
pub block_moves : (W W' : List ℕ) (b d : ℕ) → count_in W' d ≡ count_in W b → level_in W' d ≡ level_in W b → reach_in W' d ≡ reach_in W b
    → ((k : ℕ) → k < object_size * count_in W b → get_or W' (block_size * d + k) 0 ≡ get_or W (block_size * b + k) 0)
    → block_size * d + block_size ≤ length W' → Block W b → (objects_in W' d ≡ objects_in W b) × Block W' d
unfolding objects_in
block_moves W W' b d en el er here room bk =
    let same : nodes_in W' (block_size * d) (count_in W' d) ≡ nodes_in W (block_size * b) (count_in W b) = ap (nodes_in W' (block_size * d)) en ∙ nodes_same W' W (count_in W b) (block_size * d) (block_size * b) here in (
      same,
      record {
        room = room;
        small = rw en bk.small;
        packed = λ i m.
            let k : i < count_in W b = omega (arith, en) in
            packed_same W' W (block_size * d + object_size * i) (block_size * b + object_size * i) (λ f g.
            let ea : block_size * d + object_size * i + f ≡ block_size * d + (object_size * i + f) = omega arith in
            let eb : block_size * b + object_size * i + f ≡ block_size * b + (object_size * i + f) = omega arith in
            rw (ea, eb) (here (object_size * i + f) (omega arith))) (bk.packed i k);
        whole = subst (λ (ns : List Node). Whole (graph (leaf undet) ns)) (sym same) bk.whole;
        distinct = subst Distinct (sym same) bk.distinct;
        level = λ i f h k.
            let ea : block_size * d + object_size * i + head_size + f ≡ block_size * d + (object_size * i + head_size + f) = omega arith in
            let eb : block_size * b + object_size * i + head_size + f ≡ block_size * b + (object_size * i + head_size + f) = omega arith in
            rw (ea, here (object_size * i + head_size + f) (omega (arith, en)), el) (rw eb at (bk.level i f (omega (arith, en)) k));
        reach = λ i f h k.
            let ea : block_size * d + object_size * i + head_size + f ≡ block_size * d + (object_size * i + head_size + f) = omega arith in
            let eb : block_size * b + object_size * i + head_size + f ≡ block_size * b + (object_size * i + head_size + f) = omega arith in
            rw (ea, here (object_size * i + head_size + f) (omega (arith, en)), er) (rw eb at (bk.reach i f (omega (arith, en)) k));
      },
    )

-- ---- brought to a block
module _ (W : List ℕ) (r : ValueRef) (dst : ℕ) (h : Holds W r) where
  pub bring_copy : (b i : ℕ) → r ≡ Object i b → (W' : List ℕ) → block_size * dst + block_size ≤ length W → Copied W b dst W' → Gives W dst W' (Object i dst) (value_of W r)
  bring_copy b i e W' room c =
      let ob : Inside W b i = held_inside W r b i h e in
      let m = block_moves W W' b dst c.count c.level c.reach c.here (omega (arith, c.outside.same)) ob.block in
      record {
        held = record { held = record { block = m.1; low = omega (arith, c.count, ob.low) } };
        is = ap (λ (ns : List Node). canon (graph (obj i) ns)) m.0 ∙ ap (value_of W) (sym e);
        place = omega arith;
        outside = c.outside;
      }

pub block_held : (W : List ℕ) (b i : ℕ) → Block W b → i < get_or W (block_size * b + count_at) 0 → Holds W (Object i b)
unfolding count_in
block_held W b i bk h = record { held = record { block = bk; low = h } }

-- ---- a mark that does not occur
bind_other : (x j : ℕ) (r : Ref) → ((r ≡ leaf (mark x)) → ⊥) → bind x (obj j) r ≡ rename (λ i. i) r
bind_other x j (obj i) h = refl
bind_other x j (leaf (mark k)) h = ap (λ (t : Bool). elim t as (λ _. Ref) [ true ↦ obj j | false ↦ leaf (mark k) ]) (ne_eqb k x (λ z. h (ap (λ (i : ℕ). leaf (mark i)) z)))
bind_other x j (leaf undet) h = refl
bind_other x j (leaf (num n)) h = refl

module _ (W : List ℕ) (b x j : ℕ) (bk : Block W b) (low : level_in W b ≤ x) where
  abbrev ns : List Node
  ns = nodes_in W (block_size * b) (count_in W b)

  ref_other : (i : ℕ) → i < count_in W b → (k : ℕ) (r : Ref) → get_elem? (refs_at ns i) k ≡ some r → (r ≡ leaf (mark x)) → ⊥
  ref_other i h k r e z =
      let p = at_some (refs_at ns i) k r e in
      let l : k < code_count = omega (arith, p.1, four_fields W (block_size * b) (count_in W b) bk.packed i h) in
      omega (arith, low, bk.level i k h l, code_is W (block_size * b) (count_in W b) bk.packed i h k l ∙ ap code_of (p.0 ∙ z))

  inner_other : (i k : ℕ) (r : Ref) → get_elem? (refs_at ns i) k ≡ some r → (r ≡ leaf (mark x)) → ⊥
  inner_other i k r e = go (dec_lt i (count_in W b))
    where
      go : Dec (i < count_in W b) → (r ≡ leaf (mark x)) → ⊥
      go (yes h) = ref_other i h k r e
      go (no h) =
          let d : node_at ns i ≡ node 0 [] = get_or-eq_default ns (node 0 []) {n = i} (omega (arith, h, length_nodes W (block_size * b) (count_in W b))) in
          absurd (none-ne-some r (sym (ap (λ (y : Node). get_elem? y.refs k) d) ∙ e))

  pub unbound : bound_nodes x j (objects_in W b) ≡ objects_in W b
  unfolding objects_in
  unbound = nodes_agree (bind x (obj j)) (rename (λ i. i)) (λ r. (r ≡ leaf (mark x)) → ⊥) (bind_other x j) ns inner_other ∙ nodes_id _
