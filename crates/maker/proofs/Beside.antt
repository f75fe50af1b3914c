-- A new object beside the objects of one block, or alone: the laws of `empty`, `append`, `add`, `make_beside`, `make_alone` and `make_fieldless`.
-- Not here: how it is looked for (Finds), parts in several blocks (Tries, Hosts).
use Rattle.std.proofs.Common.{ℕ, zero, suc, ◌+◌, ◌*◌, ◌<◌, ◌≤◌, arith, ◌≡◌, refl, sym, ap, ap₂, ◌∙◌, subst, true, false, List, [], ◌∷◌, ◌++◌, map, length, get_or, set, take, length-set, get_or-set_same, get_or-set_other, eqb-true}
use native.Mathlib.Decide.{dec_lt}
use Rattle.std.proofs.Math.Bool.{false≢true}
use Rattle.std.proofs.Math.Option.{some, none-ne-some}
use Rattle.std.proofs.Math.ListN.{get_elem?}
use Rattle.cofj.specs.Values.{Ref, obj, leaf, mark, undet, num, Node, node, Graph, graph, node_at, refs_at, canon, make}
use Rattle.cofj.specs.Unfolding.{InRange, follow}
use Rattle.canon.specs.Figures.{object_size, head_size, code_count, first_leaf, first_mark, capacity, count_at, level_at, block_size}
use Rattle.canon.specs.Layout.{node_in, nodes_in, Packed, Distinct, Block, Inside, objects_in, graph_at, count_in, level_in, Outside, ended}
use Rattle.canon.specs.Tables.{Carried}
use Rattle.canon.proofs.Nodes.{field_low, code_low, ended_size, ended_below, ended-above, ended-count, ended_level, ended_reach, length_nodes, at_nodes, more_nodes, nodes_same, node_same, packed_same}
use Rattle.values.specs.declared.ValueRef.{ValueRef}
use Rattle.values.specs.declared.ValueRef.TheVariants.{Object, Mark, Number, Undetermined}
use Rattle.values.specs.Layout.{raw_of, Holds}
use Rattle.values.specs.Operations.{Gives, Copied}
use Rattle.values.proofs.Tests.{any_not}
use Rattle.values.proofs.Trees.{in_larger, leaf_same}
use Rattle.values.proofs.Blocks.{size_in}
use Rattle.values.proofs.Copies.{block_held}
use Rattle.values.proofs.Selecting.{unchanged, under}
use Rattle.maker.specs.Figures.{unused_codes}
use Rattle.maker.specs.Fieldless.{fieldless_object}
use Rattle.std.specs.declared.option.Option.{Option}
use Rattle.std.specs.declared.option.Option.TheVariants.{Some, None}
use Rattle.maker.specs.Laying.{values_from, raws_from, PartsHeld, Makeable, MadeIs}
use Rattle.maker.specs.Adding.{Hit, codes_of, object_of, roots, RootObject, RootCodes, RootNumbers, CodesLevel, Found, Emptied, Appended, Added, is_object, stands_in, part_of, all_stand, some_object}
use Rattle.maker.proofs.Codes.{object_code, unused_level}
use Rattle.maker.proofs.Finds.{root_none, numbers_none, root_packed, root_object}
use Rattle.maker.proofs.Makes.{raws_whole, made_raw, made_here, made_brought}
use Rattle.maker.proofs.Adding.{more, inner_more, distinct_more, Fit, AllFit, roots_low, make_found, make_new}
use Rattle.maker.proofs.Wheres.{leaves_none, stands_at}

-- ---- the values of the parts, among the objects
leaf_fit : (ns : List Node) (s : Ref) → InRange 0 s → Fit ns (graph s [])
leaf_fit ns s h = record { low = in_larger 0 (length ns) s (omega arith) h; tree = leaf_same ns [] s h }

value_fit : (W : List ℕ) (b : ℕ) → Block W b → (r : ValueRef) → Holds W r → stands_in b r ≡ true → Fit (objects_in W b) (raw_of W r)
unfolding stands_in
value_fit W b bk (Object i x) h e = record {
  low = omega (arith, size_in W b bk, h.held.low, ap (count_in W) (eqb-true x b e));
  tree = λ p. ap (λ (y : ℕ). follow (objects_in W y) (obj i) p) (sym (eqb-true x b e));
}
value_fit W b bk (Mark k) h e = leaf_fit _ (leaf (mark k)) tt
value_fit W b bk (Number x) h e = leaf_fit _ (leaf (num x)) tt
value_fit W b bk Undetermined h e = leaf_fit _ (leaf undet) tt

all_fit : (W : List ℕ) (ns : List Node) (n : ℕ) (ps : List ValueRef) → ((i : ℕ) → i < n → Fit ns (raw_of W (part_of ps i))) → AllFit ns (map (raw_of W) (take n ps))
all_fit W ns zero ps h = tt
all_fit W ns (suc n) [] h = tt
all_fit W ns (suc n) (s ∷ ps) h = (h 0 (omega arith), all_fit W ns n ps (λ i l. h (suc i) (omega arith)))

-- ---- a block emptied
pub empty_done : (W : List ℕ) (dst : ℕ) → block_size * dst + block_size ≤ length W → Emptied W dst (set (set W (block_size * dst + count_at) 0) (block_size * dst + level_at) 0)
unfolding count_in level_in
empty_done W dst room =
    let byte : (p : ℕ) → ((p ≡ block_size * dst + count_at) → ⊥) → ((p ≡ block_size * dst + level_at) → ⊥) → get_or (set (set W (block_size * dst + count_at) 0) (block_size * dst + level_at) 0) p 0 ≡ get_or W p 0 = λ p x y.
    get_or-set_other (set W (block_size * dst + count_at) 0) (block_size * dst + level_at) p 0 0 y ∙ get_or-set_other W (block_size * dst + count_at) p 0 0 x in
    record {
      count = get_or-set_other (set W (block_size * dst + count_at) 0) (block_size * dst + level_at) (block_size * dst + count_at) 0 0 (λ z. omega arith) ∙ get_or-set_same W (block_size * dst + count_at) 0 0 (omega arith);
      level = get_or-set_same (set W (block_size * dst + count_at) 0) (block_size * dst + level_at) 0 0 (omega (arith, length-set W (block_size * dst + count_at) 0));
      outside = record {
        same = length-set (set W (block_size * dst + count_at) 0) (block_size * dst + level_at) 0 ∙ length-set W (block_size * dst + count_at) 0;
        below = λ p m. byte p (λ z. omega arith) (λ z. omega arith);
        above = λ p m. byte p (λ z. omega arith) (λ z. omega arith);
      };
    }

-- ---- the object written after the others
module _ (W : List ℕ) (dst t : ℕ) (few : t < capacity) (room : block_size * dst + block_size ≤ length W) where
  pub append_done : (T D : List ℕ) → Carried T 0 W (block_size * dst + object_size * t) object_size D → (l : ℕ) → Appended W dst t T l (ended D dst (t + 1) l t)
  append_done T D a l =
      let long : block_size * dst + block_size ≤ length D = omega (arith, a.same) in
      let low : (p : ℕ) → p < block_size * dst + count_at → get_or (ended D dst (t + 1) l t) p 0 ≡ get_or D p 0 = ended_below D dst (t + 1) l t long in
      record {
        count = ended-count D dst (t + 1) l t long;
        level = ended_level D dst (t + 1) l t long;
        reach = ended_reach D dst (t + 1) l t long;
        old = λ q m. low (block_size * dst + q) (omega arith) ∙ a.below (block_size * dst + q) (omega arith);
        top = λ j m. low (block_size * dst + object_size * t + j) (omega arith) ∙ a.here j m ∙ ap (λ (x : ℕ). get_or T x 0) (let z : 0 + j ≡ j = omega arith in z);
        outside = record {
          same = ended_size D dst (t + 1) l t long ∙ a.same;
          below = λ p m. low p (omega arith) ∙ a.below p (omega arith);
          above = λ p m. ended-above D dst (t + 1) l t long p (omega arith) ∙ a.above p (omega arith);
        };
      }

pub outside_more : (b : ℕ) (W W1 W2 : List ℕ) → Outside b W W1 → Outside b W1 W2 → Outside b W W2
outside_more b W W1 W2 x y = record { same = y.same ∙ x.same; below = λ p h. y.below p h ∙ x.below p h; above = λ p h. y.above p h ∙ x.above p h }

-- ---- added
-- the code of the new object
level_top : (D : List ℕ) (dst t c n w v l : ℕ) → CodesLevel w l → ((k : ℕ) → k < object_size → get_or D (block_size * dst + object_size * t + k) 0 ≡ get_or (object_of c n w v) k 0)
    → (f : ℕ) → f < code_count → get_or D (block_size * dst + object_size * t + head_size + f) 0 < first_mark + l
level_top D dst t c n w v l lv new f h =
    let e : block_size * dst + object_size * t + head_size + f ≡ block_size * dst + object_size * t + (2 + f) = omega arith in
    omega (arith, ap (λ (x : ℕ). get_or D x 0) e, new (2 + f) (omega arith), object_code c n w v f h, lv.below f h)

module _ (W : List ℕ) (b c n w v dst t l : ℕ) (bk : Block W b) (et : t ≡ get_or W (block_size * b + count_at) 0) (lv : CodesLevel w l) (le : get_or W (block_size * b + level_at) 0 ≤ l) where
  abbrev T : List ℕ
  T = object_of c n w v

  add_level : (D : List ℕ) → level_in D dst ≡ l → ((q : ℕ) → q < object_size * t → get_or D (block_size * dst + q) 0 ≡ get_or W (block_size * b + q) 0)
      → ((k : ℕ) → k < object_size → get_or D (block_size * dst + object_size * t + k) 0 ≡ get_or T k 0) → (i f : ℕ) → i < t + 1 → f < code_count → get_or D (block_size * dst + object_size * i + head_size + f) 0 < first_mark + level_in D dst
  unfolding count_in level_in
  add_level D el old new i f h u = go (dec_lt i t)
    where
      go : Dec (i < t) → get_or D (block_size * dst + object_size * i + head_size + f) 0 < first_mark + get_or D (block_size * dst + level_at) 0
      go (yes m) =
          let e : block_size * dst + object_size * i + head_size + f ≡ block_size * dst + (object_size * i + head_size + f) = omega arith in
          let z : block_size * b + object_size * i + head_size + f ≡ block_size * b + (object_size * i + head_size + f) = omega arith in
          omega (arith, ap (λ (x : ℕ). get_or D x 0) e, old (object_size * i + head_size + f) (omega arith), ap (λ (x : ℕ). get_or W x 0) z, bk.level i f (omega arith) u, el)
      go (no m) =
          let e : i ≡ t = omega (arith, m) in
          rw e (omega (arith, level_top D dst t c n w v l lv new f u, el))

  -- in the block itself
  pub add_here : (D : List ℕ) → b ≡ dst → Appended W dst t T l D → Added W b (count_in W b) T dst D
  unfolding count_in
  add_here D e a =
      let old : (q : ℕ) → q < object_size * t → get_or D (block_size * dst + q) 0 ≡ get_or W (block_size * b + q) 0 = λ q h. a.old q h ∙ ap (λ (x : ℕ). get_or W (block_size * x + q) 0) (sym e) in
      rw (← et) (record { count = a.count; reach = a.reach; old = old; top = a.top; level = add_level D a.level old a.top; outside = a.outside })

  -- in a copy
  pub add_there : (C D : List ℕ) → Copied W b dst C → Appended C dst t T l D → Added W b (count_in W b) T dst D
  unfolding count_in
  add_there C D c a =
      let old : (q : ℕ) → q < object_size * t → get_or D (block_size * dst + q) 0 ≡ get_or W (block_size * b + q) 0 = λ q h. a.old q h ∙ c.here q (omega arith) in
      rw (← et) (record {
        count = a.count;
        reach = a.reach;
        old = old;
        top = a.top;
        level = add_level D a.level old a.top;
        outside = outside_more dst W C D c.outside a.outside;
      })

-- ---- the block with the new object
module _ (W : List ℕ) (b t : ℕ) (T : List ℕ) (dst : ℕ) (D : List ℕ) (pk : (i : ℕ) → i < t → Packed W (block_size * b + object_size * i)) (pt : Packed T 0) (few : t < capacity)
    (inner : (i f : ℕ) (r : Ref) → get_elem? (refs_at (nodes_in W (block_size * b) t) i) f ≡ some r → InRange (length (nodes_in W (block_size * b) t)) r)
    (above : (f : ℕ) (r : Ref) → get_elem? (node_in T 0).refs f ≡ some r → InRange (length (nodes_in W (block_size * b) t)) r)
    (d : Distinct (nodes_in W (block_size * b) t)) (miss : (j : ℕ) → j < length (nodes_in W (block_size * b) t) → node_at (nodes_in W (block_size * b) t) j ≡ node_in T 0 → ⊥)
    (room : block_size * dst + block_size ≤ length W) (ad : Added W b t T dst D) where
  top_byte : (k : ℕ) → k < object_size → get_or D (block_size * dst + object_size * t + k) 0 ≡ get_or T (0 + k) 0
  top_byte k h = let e : 0 + k ≡ k = omega arith in rw e (ad.top k h)

  pub objects_are : objects_in D dst ≡ more (nodes_in W (block_size * b) t) (node_in T 0)
  unfolding objects_in nodes_in
  objects_are =
      ap (nodes_in D (block_size * dst)) ad.count ∙ more_nodes D t (block_size * dst) 1
      ∙ ap₂ {A = List Node} {B = List Node} ◌++◌ (nodes_same D W t (block_size * dst) (block_size * b) ad.old)
      (ap (λ (x : Node). x ∷ []) (node_same D T (block_size * dst + object_size * t) 0 top_byte))

  pub block_added : Block D dst
  block_added = record {
    room = omega (arith, ad.outside.same);
    small = rw ad.count (omega arith);
    packed = λ i h. go i (dec_lt i t) (rw ad.count at h);
    whole = record { top = tt; inner = λ i f r e. subst (λ (ns : List Node). InRange (length ns) r) (sym objects_are) (inner_more (node_in T 0) (nodes_in W (block_size * b) t) inner above i f r (subst (λ (ns : List Node). get_elem? (refs_at ns i) f ≡ some r) objects_are e)) };
    distinct = subst Distinct (sym objects_are) (distinct_more (node_in T 0) (nodes_in W (block_size * b) t) inner above d miss);
    level = λ i f h. ad.level i f (rw ad.count at h);
    reach = λ i f h l c. omega (arith, ad.reach, low i f l (dec_lt i t) (rw ad.count at h) c);
  }
    where
      new_low : (f : ℕ) → f < code_count → get_or T (0 + head_size + f) 0 < first_leaf → get_or T (0 + head_size + f) 0 < t
      new_low = field_low T 0 pt t (λ f r e. subst (λ (n : ℕ). InRange n r) (length_nodes W (block_size * b) t) (above f r e))

      low : (i f : ℕ) → f < code_count → Dec (i < t) → i < t + 1 → get_or D (block_size * dst + object_size * i + head_size + f) 0 < first_leaf → get_or D (block_size * dst + object_size * i + head_size + f) 0 < t
      low i f l (yes h) m c =
          let ea : block_size * dst + object_size * i + head_size + f ≡ block_size * dst + (object_size * i + head_size + f) = omega arith in
          let eb : block_size * b + object_size * i + head_size + f ≡ block_size * b + (object_size * i + head_size + f) = omega arith in
          let e : get_or D (block_size * dst + object_size * i + head_size + f) 0 ≡ get_or W (block_size * b + object_size * i + head_size + f) 0 = rw (ea, eb) (ad.old (object_size * i + head_size + f) (omega arith)) in
          omega (arith, e, code_low W (block_size * b) t pk i h (record { top = tt; inner = inner }) f l (rw e at c))
      low i f l (no h) m c =
          let e : block_size * dst + object_size * i + head_size + f ≡ block_size * dst + object_size * t + (2 + f) = omega (arith, h) in
          let y : 0 + head_size + f ≡ 0 + (2 + f) = omega arith in
          let z : get_or D (block_size * dst + object_size * i + head_size + f) 0 ≡ get_or T (0 + head_size + f) 0 =
          ap (λ (p : ℕ). get_or D p 0) e ∙ top_byte (2 + f) (omega arith) ∙ ap (λ (p : ℕ). get_or T p 0) (sym y) in
          omega (arith, z, new_low f l (rw z at c))

      go : (i : ℕ) → Dec (i < t) → i < t + 1 → Packed D (block_size * dst + object_size * i)
      go i (yes h) l = packed_same D W (block_size * dst + object_size * i) (block_size * b + object_size * i) (λ k m.
          let ea : block_size * dst + object_size * i + k ≡ block_size * dst + (object_size * i + k) = omega arith in
          let eb : block_size * b + object_size * i + k ≡ block_size * b + (object_size * i + k) = omega arith in
          rw (ea, eb) (ad.old (object_size * i + k) (omega arith))) (pk i h)
      go i (no h) l = let e : i ≡ t = omega (arith, h) in rw e (packed_same D T (block_size * dst + object_size * t) 0 top_byte pt)

-- ---- made
module _ (W : List ℕ) (c : ℕ) (ps : List ValueRef) (n w : ℕ) (held : PartsHeld W ps n) (rc : RootCodes W ps n 0 w) (v : ℕ) (rn : RootNumbers ps n 0 v) (least : n ≤ code_count) where
  abbrev gs : List Graph
  gs = raws_from W ps 0 n

  abbrev bytes : List ℕ
  bytes = object_of c n w v

  cr : RootObject c gs bytes
  cr = root_object W ps n w rc v rn least held c

  -- over objects among which the parts are
  module _ (b t : ℕ) (dst : ℕ) (D : List ℕ) (pk : (i : ℕ) → i < t → Packed W (block_size * b + object_size * i)) (few : t < capacity)
      (inner : (i f : ℕ) (r : Ref) → get_elem? (refs_at (nodes_in W (block_size * b) t) i) f ≡ some r → InRange (length (nodes_in W (block_size * b) t)) r)
      (fits : AllFit (nodes_in W (block_size * b) t) gs) (d : Distinct (nodes_in W (block_size * b) t))
      (miss : (j : ℕ) → j < length (nodes_in W (block_size * b) t) → node_at (nodes_in W (block_size * b) t) j ≡ node_in bytes 0 → ⊥)
      (room : block_size * dst + block_size ≤ length W) (ad : Added W b t bytes dst D) where
    abbrev ns : List Node
    ns = nodes_in W (block_size * b) t

    above : (f : ℕ) (r : Ref) → get_elem? (node_in bytes 0).refs f ≡ some r → InRange (length ns) r
    above f r e = roots_low ns gs fits f r (subst (λ (x : Node). get_elem? x.refs f ≡ some r) cr.is e)

    are : objects_in D dst ≡ more ns (node c (roots gs))
    are = objects_are W b t bytes dst D pk cr.packed few inner above d miss room ad ∙ ap (more ns) cr.is

    bk : Block D dst
    bk = block_added W b t bytes dst D pk cr.packed few inner above d miss room ad

    value : make c (values_from W ps 0 n) ≡ canon (graph_at D dst t)
    value =
        made_raw W c ps n held ∙ make_new c gs ns (raws_whole W c ps n held) fits inner
        ∙ ap₂ {A = ℕ} {B = List Node} (λ i l. canon (graph (obj i) l)) (length_nodes W (block_size * b) t) (sym are)

    new_inside : Inside D dst t
    new_inside = record { block = bk; low = omega (arith, ad.count) }

    made_new : MadeIs W (make c (values_from W ps 0 n)) dst D (Some (Object t dst))
    made_new = made_here W D _ dst dst t new_inside value (under dst W D ad.outside) (omega arith)

  -- beside the objects of a block
  module _ (b : ℕ) (bk : Block W b) (bs : all_stand ps n b ≡ true) where
    fits : AllFit (objects_in W b) gs
    unfolding raws_from
    fits = all_fit W (objects_in W b) n ps (λ i h. value_fit W b bk (part_of ps i) (held.part i h) (stands_at ps n b bs i h))

    module _ (k : ℕ) (hit : Hit W b (get_or W (block_size * b + count_at) 0) (object_of c n w v) k) where
      pub beside_value : make c (values_from W ps 0 n) ≡ canon (graph_at W b k)
      unfolding objects_in count_in
      beside_value =
          made_raw W c ps n held ∙ make_found c gs (objects_in W b) (raws_whole W c ps n held) fits bk.whole.inner k (omega (arith, size_in W b bk, hit.low))
          (at_nodes W (block_size * b) (get_or W (block_size * b + count_at) 0) k hit.low ∙ hit.is ∙ cr.is)

    module _ (a : Option ℕ) (fd : Found W b (get_or W (block_size * b + count_at) 0) (object_of c n w v) a) where
      module _ (k : ℕ) (ea : a ≡ Some k) where
        pub beside_held : Holds W (Object k b)
        beside_held = block_held W b k bk (fd.hit k ea).low

        pub beside_found : (dst : ℕ) (W' : List ℕ) (r : ValueRef) → Gives W dst W' r (canon (graph_at W b k)) → MadeIs W (make c (values_from W ps 0 n)) dst W' (Some r)
        beside_found dst = made_brought W W _ dst b k beside_held.held (beside_value k (fd.hit k ea)) (under dst W W (unchanged dst W))

      pub beside_new : a ≡ None → get_or W (block_size * b + count_at) 0 < capacity → (dst : ℕ) (D : List ℕ) → Makeable W ps n dst → Added W b (count_in W b) (object_of c n w v) dst D
          → MadeIs W (make c (values_from W ps 0 n)) dst D (Some (Object (get_or W (block_size * b + count_at) 0) dst))
      unfolding count_in objects_in
      beside_new ge h dst D mk ad =
          made_new b (get_or W (block_size * b + count_at) 0) dst D bk.packed (omega arith) bk.whole.inner fits bk.distinct
          (λ j l e. let m : j < get_or W (block_size * b + count_at) 0 = omega (arith, size_in W b bk) in
          (fd.miss ge).none j m (sym (at_nodes W (block_size * b) (get_or W (block_size * b + count_at) 0) j m) ∙ e)) (omega (arith, mk.under, mk.room)) ad

  -- alone
  module _ (lv : some_object ps n ≡ false) where
    alone_fit : (r : ValueRef) → is_object r ≡ false → Fit [] (raw_of W r)
    unfolding is_object
    alone_fit (Object i b) e = absurd (false≢true (sym e))
    alone_fit (Mark k) e = leaf_fit [] (leaf (mark k)) tt
    alone_fit (Number x) e = leaf_fit [] (leaf (num x)) tt
    alone_fit Undetermined e = leaf_fit [] (leaf undet) tt

    alone_fits : AllFit [] gs
    unfolding raws_from some_object
    alone_fits = all_fit W [] n ps (λ i h. alone_fit (part_of ps i) (any_not (λ j. is_object (part_of ps j)) n i lv h))

    pub alone_new : (dst l : ℕ) (D : List ℕ) → CodesLevel w l → block_size * dst + block_size ≤ length W → Appended W dst 0 (object_of c n w v) l D → MadeIs W (make c (values_from W ps 0 n)) dst D (Some (Object 0 dst))
    unfolding nodes_in
    alone_new dst l D ls room a =
        made_new dst 0 dst D (λ i h. absurd (omega arith)) (omega arith) (λ i f r e. absurd (none-ne-some r e)) alone_fits (record { apart = λ i j h. absurd (omega arith) }) (λ j h. absurd (omega arith)) room
        (record {
          count = a.count;
          reach = a.reach;
          old = λ q h. absurd (omega arith);
          top = a.top;
          level = λ i f h m. let e : i ≡ 0 = omega arith in rw e (omega (arith, level_top D dst 0 c n w v l ls a.top f m, a.level));
          outside = a.outside;
        })

-- ---- a new object without parts
pub no_parts : (W : List ℕ) → PartsHeld W [] 0
no_parts W = record { full = omega arith; part = λ i h. absurd (omega arith) }

pub fieldless_is : (c : ℕ) → object_of c 0 unused_codes 0 ≡ fieldless_object c
unfolding object_of codes_of
fieldless_is c = refl

pub fieldless_packed : (c : ℕ) → Packed (fieldless_object c) 0
fieldless_packed c = subst (λ (T : List ℕ). Packed T 0) (fieldless_is c) (root_packed [] [] 0 unused_codes (root_none [] [] 0) 0 (numbers_none [] 0) (omega arith) (no_parts []) c)

pub fieldless_new : (W : List ℕ) (c dst : ℕ) (D : List ℕ) → block_size * dst + block_size ≤ length W → Appended W dst 0 (object_of c 0 unused_codes 0) 0 D → MadeIs W (make c []) dst D (Some (Object 0 dst))
unfolding values_from
fieldless_new W c dst D = alone_new W c [] 0 unused_codes (no_parts W) (root_none W [] 0) 0 (numbers_none [] 0) (omega arith) (leaves_none []) dst 0 D unused_level
