-- Laws of block 0 with one object without fields of each class.
use Rattle.std.proofs.Common.{ℕ, zero, suc, ◌+◌, ◌*◌, ◌/◌, ◌%◌, ◌≤◌, ◌<◌, arith, ◌≡◌, refl, sym, ap, ◌∙◌, subst, Bool, true, false, cond, List, [], eqb, eqb-true, length, get_or}
use native.Mathlib.Decide.{dec_lt, ℕ_discrete}
use Rattle.std.proofs.Math.Bool.{false≢true}
use Rattle.std.proofs.Math.Option.{none-ne-some}
use Rattle.std.proofs.Math.ListN.{get_elem?, get_or-eq_default}
use Rattle.cofj.specs.Values.{Ref, Node, node, node_at, refs_at, canon, make}
use Rattle.cofj.proofs.Trees.{same_cls}
use Rattle.canon.specs.Figures.{object_size, head_size, code_count, undetermined_code, objects_size, count_at, level_at, reach_at, block_size}
use Rattle.canon.specs.Layout.{node_in, Block, objects_in, graph_at, count_in, level_in, Beneath}
use Rattle.canon.specs.Tables.{Carried}
use Rattle.canon.proofs.Nodes.{length_nodes, at_nodes, packed_same}
use Rattle.values.specs.declared.ValueRef.TheVariants.{Object}
use Rattle.values.specs.Layout.{Holds}
use Rattle.values.proofs.Kept.{object_kept}
use Rattle.values.proofs.Selecting.{unchanged, under}
use Rattle.maker.specs.Figures.{preset_count, unused_codes}
use Rattle.std.specs.declared.option.Option.TheVariants.{Some}
use Rattle.maker.specs.Laying.{values_from, MadeIs}
use Rattle.maker.specs.Adding.{codes_of, object_of}
use Rattle.maker.specs.Fieldless.{fieldless_object, Preset, Fieldless, LaidFieldless}
use Rattle.maker.proofs.Makes.{made_here}
use Rattle.maker.proofs.Wheres.{each_none}
use Rattle.maker.proofs.Finds.{root_none, numbers_none}
use Rattle.maker.proofs.Beside.{fieldless_packed, no_parts, beside_value}

-- ---- the table: a test of the numbers below n, and what it tells of each
abbrev pub all_to : (ℕ → Bool) → ℕ → Bool
all_to t zero = true
all_to t (suc n) = cond (t n) (all_to t n) false

all_at : (t : ℕ → Bool) (n i : ℕ) → all_to t n ≡ true → i < n → t i ≡ true
all_at t zero i e h = absurd (omega arith)
all_at t (suc n) i e h = go (t n) refl e (ℕ_discrete i n) (λ q l. all_at t n i q l)
  where
    go : (x : Bool) → t n ≡ x → cond x (all_to t n) false ≡ true → Dec (i ≡ n) → (all_to t n ≡ true → i < n → t i ≡ true) → t i ≡ true
    go true ex q (yes z) ih = subst (λ (m : ℕ). t m ≡ true) (sym z) ex
    go true ex q (no z) ih = ih q (omega (arith, z))
    go false ex q d ih = absurd (false≢true q)

abbrev pub fieldless_byte : List ℕ → ℕ → Bool
fieldless_byte P p = eqb (get_or P p 0) (get_or (fieldless_object (p / object_size)) (p % object_size) 0)

pub preset_is : (P : List ℕ) → all_to (fieldless_byte P) objects_size ≡ true → length P ≡ reach_at → get_or P count_at 0 ≡ preset_count → get_or P level_at 0 ≡ 0 → Preset P
preset_is P e long count level = record { long = long; each = each; count = count; level = level }
  where
    each : (c k : ℕ) → c < preset_count → k < object_size → get_or P (object_size * c + k) 0 ≡ get_or (fieldless_object c) k 0
    each c k h l =
        let ec : (object_size * c + k) / object_size ≡ c = omega arith in
        let ek : (object_size * c + k) % object_size ≡ k = omega arith in
        eqb-true (get_or P (object_size * c + k) 0) (get_or (fieldless_object ((object_size * c + k) / object_size)) ((object_size * c + k) % object_size) 0) (all_at (fieldless_byte P) objects_size (object_size * c + k) e (omega arith))
        ∙ (λ i. get_or (fieldless_object (ec i)) (ek i) 0)

-- ---- the block
module _ (D : List ℕ) (room : block_size ≤ length D) (ec : count_in D 0 ≡ preset_count) (el : level_in D 0 ≡ 0)
    (each : (j : ℕ) → j < preset_count → (k : ℕ) → k < object_size → get_or D (block_size * 0 + object_size * j + k) 0 ≡ get_or (fieldless_object j) k 0) where
  no_fields : (j : ℕ) → j < preset_count → get_or D (block_size * 0 + object_size * j + 1) 0 ≡ 0
  no_fields j h = each j h 1 (omega arith)

  fieldless_cls : (j : ℕ) → j < preset_count → get_or D (block_size * 0 + object_size * j) 0 ≡ j
  fieldless_cls j h = ap (λ (p : ℕ). get_or D p 0) (let z : block_size * 0 + object_size * j ≡ block_size * 0 + object_size * j + 0 = omega arith in z) ∙ each j h 0 (omega arith)

  node_fieldless : (j : ℕ) → j < preset_count → node_at (objects_in D 0) j ≡ node j []
  unfolding objects_in node_in
  node_fieldless j h = at_nodes D (block_size * 0) (count_in D 0) j (omega (arith, ec)) ∙ rw (fieldless_cls j h, no_fields j h)

  fieldless_refs : (i : ℕ) → refs_at (objects_in D 0) i ≡ []
  unfolding objects_in
  fieldless_refs i = go (dec_lt i preset_count)
    where
      go : Dec (i < preset_count) → refs_at (objects_in D 0) i ≡ []
      go (yes h) = ap (λ (x : Node). x.refs) (node_fieldless i h)
      go (no h) = ap (λ (x : Node). x.refs) (get_or-eq_default (objects_in D 0) (node 0 []) {n = i} (omega (arith, h, ec, length_nodes D (block_size * 0) (count_in D 0))))

  -- each code is undetermined
  fieldless_code : (j f : ℕ) → j < preset_count → f < code_count → get_or D (block_size * 0 + object_size * j + head_size + f) 0 ≡ undetermined_code
  fieldless_code j f h l =
      let z : block_size * 0 + object_size * j + head_size + f ≡ block_size * 0 + object_size * j + (2 + f) = omega arith in
      let y : 0 + (2 + f) ≡ 2 + f = omega arith in
      rw z (each j h (2 + f) (omega arith) ∙ rw y at ((fieldless_packed j).spare (2 + f) (omega arith) (omega arith)))

  fieldless_block : Block D 0
  unfolding objects_in
  fieldless_block = record {
    room = omega arith;
    small = omega (arith, ec);
    packed = λ i h. packed_same D (fieldless_object i) (block_size * 0 + object_size * i) 0 (λ k b. let z : 0 + k ≡ k = omega arith in rw z (each i (omega (arith, ec)) k b)) (fieldless_packed i);
    whole = record { top = tt; inner = λ i f r e. absurd (none-ne-some r (sym (ap (λ (rs : List Ref). get_elem? rs f) (fieldless_refs i)) ∙ e)) };
    distinct = record {
      apart = λ i j h l e.
          let n : length (objects_in D 0) ≡ preset_count = length_nodes D (block_size * 0) (count_in D 0) ∙ ec in
          ap (λ (x : Node). x.cls) (sym (node_fieldless i (omega arith))) ∙ same_cls (objects_in D 0) (objects_in D 0) i j e ∙ ap (λ (x : Node). x.cls) (node_fieldless j (omega arith));
    };
    level = λ i f h l. omega (arith, fieldless_code i f (omega (arith, ec)) l);
    reach = λ i f h l c. absurd (omega (arith, fieldless_code i f (omega (arith, ec)) l));
  }

pub fieldless_laid : (W P D : List ℕ) → Preset P → Carried P 0 W 0 reach_at D → block_size ≤ length W → LaidFieldless W D
unfolding count_in level_in
fieldless_laid W P D pr ca room = record {
  fieldless = record {
    block = fieldless_block D long ec el each;
    count = ec;
    level = el;
    cls = λ j m. let z : object_size * j ≡ block_size * 0 + object_size * j = omega arith in rw z (fieldless_cls D long ec el each j m);
    fieldless = λ j m. let z : object_size * j + 1 ≡ block_size * 0 + object_size * j + 1 = omega arith in rw z (each j m 1 (omega arith));
  };
  outside = record { same = ca.same; below = λ p h. absurd (omega arith); above = λ p h. ca.above p (omega arith) };
}
  where
    long : block_size ≤ length D
    long = omega (arith, ca.same)

    ec : get_or D (block_size * 0 + count_at) 0 ≡ preset_count
    ec = ca.here count_at (omega arith) ∙ pr.count

    el : get_or D (block_size * 0 + level_at) 0 ≡ 0
    el = ca.here level_at (omega arith) ∙ pr.level

    each : (j : ℕ) → j < preset_count → (k : ℕ) → k < object_size → get_or D (block_size * 0 + object_size * j + k) 0 ≡ get_or (fieldless_object j) k 0
    each j h k l =
        let z : block_size * 0 + object_size * j + k ≡ 0 + (object_size * j + k) = omega arith in
        let y : 0 + (object_size * j + k) ≡ object_size * j + k = omega arith in
        ap (λ (p : ℕ). get_or D p 0) z ∙ ca.here (object_size * j + k) (omega arith) ∙ ap (λ (p : ℕ). get_or P p 0) y ∙ pr.each j k h l

-- ---- read
module _ (W : List ℕ) (b : Fieldless W) where
  pub fieldless_held : (c : ℕ) → c < preset_count → Holds W (Object c 0)
  fieldless_held c h = record { held = record { block = b.block; low = omega (arith, b.count) } }

  fieldless_node : (c : ℕ) → c < preset_count → node_in W (block_size * 0 + object_size * c) ≡ node_in (fieldless_object c) 0
  unfolding node_in
  fieldless_node c h =
      let z : block_size * 0 + object_size * c ≡ object_size * c = omega arith in
      rw (z, b.cls c h, b.fieldless c h)

  -- object c of block 0 is a new object of class c without parts
  module _ (c dst : ℕ) (h : c < preset_count) where
    fieldless_value : make c [] ≡ canon (graph_at W 0 c)
    unfolding values_from count_in object_of codes_of
    fieldless_value =
        beside_value W c [] 0 unused_codes (no_parts W) (root_none W [] 0) 0 (numbers_none [] 0) (omega arith) 0 b.block (each_none [] 0 0) c
        (record { low = omega (arith, b.count); is = fieldless_node c h })

    pub fieldless_made : MadeIs W (make c []) dst W (Some (Object c 0))
    fieldless_made = made_here W W _ dst 0 c (fieldless_held c h).held fieldless_value (under dst W W (unchanged dst W)) (omega arith)

pub fieldless_kept : (b : ℕ) (W W' : List ℕ) → Beneath b W W' → 0 < b → Fieldless W → Fieldless W'
unfolding count_in level_in
fieldless_kept b W W' o h s = record {
  block = (object_kept W W' 0 o.same (λ p l m. o.below p (omega arith)) 0 (fieldless_held W s 0 (omega arith))).held.held.block;
  count = o.below (block_size * 0 + count_at) (omega arith) ∙ s.count;
  level = o.below (block_size * 0 + level_at) (omega arith) ∙ s.level;
  cls = λ c l. o.below (object_size * c) (omega arith) ∙ s.cls c l;
  fieldless = λ c l. o.below (object_size * c + 1) (omega arith) ∙ s.fieldless c l;
}
