-- Laws of numbering the objects.
use Rattle.std.proofs.Common.{ℕ, suc, ◌+◌, ◌-◌, ◌*◌, ◌<◌, ◌≤◌, arith, ◌≡◌, refl, sym, ap, ap₂, ◌∙◌, subst, Bool, true, false, cond, true≢false, List, [], ◌∷◌, eqb, length, get_or, take, length-take-le, get_or-take, eq-eqb, ne_eqb}
use Rattle.std.proofs.Math.Option.{some}
use Rattle.std.proofs.Math.ListN.{get_elem?, length-map}
use Rattle.cofj.specs.Values.{Ref, obj, leaf, undet, Node, node, Graph, graph, rename, rename_node, node_at, refs_at, colour_of, colours, is_in, place_in, visit, canon}
use Rattle.cofj.specs.Unfolding.{InRange, Whole}
use Rattle.cofj.proofs.Basics.{get_d_map_lt}
use Rattle.cofj.proofs.Colours.{colour, colour_low}
use Rattle.cofj.proofs.Walk.{order, order_length, order_kept, order_root, Covered}
use Rattle.cofj.proofs.Canon.{number, listed, canon_is, canon-whole, get_d_is_in, place_in_spec}
use Rattle.cofj.proofs.Unique.{canon-canon}
use Rattle.cofj.proofs.Numbering.{canonical_root}
use Rattle.canon.specs.Figures.{object_size, head_size, first_leaf, capacity, block_size}
use Rattle.canon.specs.Layout.{node_in, nodes_in, Codes, Distinct, Block, graph_at, objects_in, count_in, ended}
use Rattle.canon.specs.Tables.{Filled, Below}
use Rattle.canon.specs.Walking.{walk_ref, mark_in, Listed, Walkable}
use Rattle.canon.specs.Numbers.{number_in, Gatherable, Gathered, Levels, Ready, Placed, graph_in}
use Rattle.canon.proofs.Colouring.{value_distinct}
use Rattle.canon.proofs.Nodes.{at_nodes, length_nodes, ref_object, AllPacked, code_low, ended_size, ended_below, ended-above, ended-count, ended_level, ended_reach}
use Rattle.canon.proofs.Turned.{turn_ref, changed, turn_rename, node_agree}
use Rattle.canon.proofs.Lifts.{turnable}
use Rattle.canon.proofs.Classing.{raw_codes}
use Rattle.canon.proofs.Gathers.{gathered_node, gathered_packed}

-- ---- numbers by the table
place_le : (c : ℕ) (s : List ℕ) → place_in c s ≤ length s
unfolding place_in
place_le c [] = omega arith
place_le c (d ∷ s) = go (eqb c d) (place_le c s)
  where
    go : (b : Bool) → place_in c s ≤ length s → (elim b as (λ _. ℕ) [ true ↦ 0 | false ↦ suc (place_in c s) ]) ≤ suc (length s)
    go true h = omega arith
    go false h = omega arith

place_out : (c : ℕ) (s : List ℕ) → is_in c s ≡ false → place_in c s ≡ length s
unfolding is_in place_in
place_out c [] h = refl
place_out c (d ∷ s) h = go (eqb c d) h (place_out c s)
  where
    go : (b : Bool) → (elim b as (λ _. Bool) [ true ↦ true | false ↦ is_in c s ]) ≡ false → (is_in c s ≡ false → place_in c s ≡ length s)
        → (elim b as (λ _. ℕ) [ true ↦ 0 | false ↦ suc (place_in c s) ]) ≡ suc (length s)
    go true e ih = absurd (true≢false e)
    go false e ih = ap suc (ih e)

-- the table tells the place
number_in_lem : (n : ℕ) (M O : List ℕ) (m c : ℕ) → Listed n O M m → length (take m O) ≡ m → c < n → number_in M m c ≡ place_in c (take m O)
unfolding number_in mark_in
number_in_lem n M O m c l e h = ap (λ (p : ℕ). cond (eqb p 0) m (p - 1)) (l.entry c h) ∙ go (is_in c (take m O)) refl
  where
    go : (b : Bool) → is_in c (take m O) ≡ b → cond (eqb (cond b (place_in c (take m O) + 1) 0) 0) m (cond b (place_in c (take m O) + 1) 0 - 1) ≡ place_in c (take m O)
    go true q = rw (ne_eqb (place_in c (take m O) + 1) 0 (λ z. omega arith)) (omega arith)
    go false q = sym e ∙ sym (place_out c (take m O) q)

pub number_met : (T : List ℕ) (m c : ℕ) → ((get_or T c 0 ≡ 0) → ⊥) → get_or T c 0 - 1 ≡ number_in T m c
unfolding number_in
number_met T m c h = rw (ne_eqb (get_or T c 0) 0 h)

pub number_not : (T : List ℕ) (m c : ℕ) → get_or T c 0 ≡ 0 → m ≡ number_in T m c
unfolding number_in
number_not T m c h = rw (eq-eqb (get_or T c 0) 0 h)

-- a graph with an object for its root has one to list
order_some : (g : Graph) (w : Whole g) (i : ℕ) → g.root ≡ obj i → 1 ≤ length (order g w)
order_some g w i e = omega (arith, (place_in_spec (colour g w i) (order g w) (subst (Covered g w (order g w)) e (order_root g w))).0)

-- two lists of nodes with the same at each place
nodes_ext : (xs ys : List Node) → length xs ≡ length ys → ((i : ℕ) → i < length xs → node_at xs i ≡ node_at ys i) → xs ≡ ys
nodes_ext [] [] e h = refl
nodes_ext [] (y ∷ ys) e h = absurd (omega arith)
nodes_ext (x ∷ xs) [] e h = absurd (omega arith)
nodes_ext (x ∷ xs) (y ∷ ys) e h = ap₂ {C = List Node} ◌∷◌ (h 0 (omega arith)) (nodes_ext xs ys (omega arith) (λ i l. h (suc i) (omega arith)))

module _ (N : List ℕ) (n : ℕ) (C : List ℕ) (root : ℕ) (W : List ℕ) (dst : ℕ) (rd : Ready N n C root W dst) where
  wg : Whole (graph_in N n root)
  wg = record { top = subst (λ (k : ℕ). root < k) (sym (length_nodes N 0 n)) rd.inside; inner = rd.raw.whole.inner }

  inner : (i k : ℕ) (r : Ref) → get_elem? (refs_at (nodes_in N 0 n) i) k ≡ some r → InRange n r
  inner i k r e = subst (λ (l : ℕ). InRange l r) (length_nodes N 0 n) (rd.raw.whole.inner i k r e)

  colour_is : (i : ℕ) → i < n → get_or C i 0 ≡ colour_of (colours (nodes_in N 0 n)) i
  colour_is i h = sym (get_or-take n C i 0 h) ∙ ap (λ (l : List ℕ). get_or l i 0) rd.coloured

  low : (i : ℕ) → i < n → get_or C i 0 < n
  low i h = omega (arith, colour_is i h, colour_low (graph_in N n root) wg i (subst (λ (k : ℕ). i < k) (sym (length_nodes N 0 n)) h))

  -- the order over the bytes is the graph's
  pub front_size_lem : length (take n C) ≡ n
  front_size_lem = length-take-le n C rd.long

  walk_is : walk_ref N (take n C) (n + 1) root [] ≡ order (graph_in N n root) wg
  unfolding walk_ref
  walk_is =
      let e : n + 1 ≡ suc (length (nodes_in N 0 n)) = rw (length_nodes N 0 n) (omega arith) in
      ap (λ (r : Ref). visit (nodes_in N 0 (length (take n C))) (take n C) (n + 1) r []) (ref_object root 0 (omega (arith, rd.inside, rd.raw.few)))
      ∙ ap (λ (k : ℕ). visit (nodes_in N 0 k) (take n C) (n + 1) (obj root) []) front_size_lem
      ∙ ap₂ {A = List ℕ} {B = ℕ} (λ cs k. visit (nodes_in N 0 n) cs k (obj root) []) rd.coloured e

  pub walk_small : length (walk_ref N (take n C) (n + 1) root []) ≤ length (take n C)
  walk_small = rw walk_is (omega (arith, order_length (graph_in N n root) wg, length_nodes N 0 n, front_size_lem))

  pub walk_root : root < length (take n C)
  walk_root = omega (arith, front_size_lem, rd.inside)

  pub colours_below : Below n C
  colours_below = record { room = rd.long; low = low }

  pub walkable : (O T : List ℕ) → capacity ≤ length O → capacity ≤ length T → Walkable N (take n C) O T
  walkable O T ho ht = record {
    codes = subst (Codes N) (sym front_size_lem) (raw_codes N n rd.raw);
    colours = record { room = omega arith; low = λ i h. rw (get_or-take n C i 0 (omega (arith, front_size_lem)), front_size_lem) (low i (omega (arith, front_size_lem))) };
    order = omega (arith, front_size_lem, rd.raw.few);
    met = omega (arith, front_size_lem, rd.raw.few);
  }

  canon-count : length (canon (graph_in N n root)).nodes ≡ length (order (graph_in N n root) wg)
  canon-count = ap (λ (h : Graph). length h.nodes) (canon_is (graph_in N n root) wg) ∙ length-map (order (graph_in N n root) wg) _

  module _ (O : List ℕ) (m : ℕ) (eo : take m O ≡ walk_ref N (take n C) (n + 1) root []) (few : m ≤ length (take n C)) (long : capacity ≤ length O) where
    fits : m ≤ length O
    fits = omega (arith, front_size_lem, rd.raw.few)

    size : length (take m O) ≡ m
    size = length-take-le m O fits

    order_is : take m O ≡ order (graph_in N n root) wg
    order_is = eo ∙ walk_is

    pub counted : m ≡ length (canon (graph_in N n root)).nodes
    counted = sym size ∙ ap length order_is ∙ sym canon-count

    listed_low : (j : ℕ) → j < m → get_or O j 0 < n
    listed_low j h =
        let e : get_or O j 0 ≡ get_or (order (graph_in N n root) wg) j 0 = sym (get_or-take m O j 0 h) ∙ ap (λ (l : List ℕ). get_or l j 0) order_is in
        let i : is_in (get_or (order (graph_in N n root) wg) j 0) (order (graph_in N n root) wg) ≡ true = get_d_is_in (order (graph_in N n root) wg) j (omega (arith, counted, canon-count)) in
        omega (arith, (order_kept (graph_in N n root) wg _ i).0, length_nodes N 0 n)

    pub gatherable : (T : List ℕ) → capacity ≤ length T → Gatherable N O m T
    gatherable T h = record { order = fits; each = λ j l. turnable N T n (raw_codes N n rd.raw) (omega (arith, rd.raw.few)) (get_or O j 0) (listed_low j l) }

    small : m ≤ capacity
    small = omega (arith, front_size_lem, rd.raw.few)

    pub put_room : block_size * dst + object_size * m ≤ length W
    put_room = omega (arith, small, rd.room)

    module _ (M : List ℕ) (lm : Listed (length (take n C)) O M m) (T : List ℕ) (fm : Filled (λ i. number_in M m (get_or C i 0)) n T) (D : List ℕ) (g : Gathered N O m T W (block_size * dst) D)
        (l : ℕ) (lv : Levels D (block_size * dst) m l) where
      abbrev E : List ℕ
      E = ended D dst m l m

      room : block_size * dst + block_size ≤ length D
      room = omega (arith, g.same, rd.room)

      same_size : length E ≡ length W
      same_size = ended_size D dst m l m room ∙ g.same

      ft : Filled (λ i. place_in (get_or C i 0) (take m O)) n T
      ft = record { at = λ i h. fm.at i h ∙ number_in_lem n M O m (get_or C i 0) (subst (λ (k : ℕ). Listed k O M m) front_size_lem lm) size (low i h) }

      number_is : (i : ℕ) → i < n → get_or T i 0 ≡ number (graph_in N n root) wg i
      number_is i h = ft.at i h ∙ ap₂ place_in (colour_is i h) order_is

      number_small : (i : ℕ) → i < n → number (graph_in N n root) wg i < first_leaf
      number_small i h = omega (arith, small, place_le (colour_of (colours (nodes_in N 0 n)) i) (order (graph_in N n root) wg), counted, canon-count)

      g' : Gathered N O m T E (block_size * dst) E
      g' = record {
        same = refl;
        here = λ j k h c. ended_below D dst m l m room (block_size * dst + object_size * j + k) (omega (arith, small)) ∙ g.here j k h c;
        below = λ q h. refl;
        above = λ q h. refl;
      }

      node_is : (j : ℕ) → j < m → node_in E (block_size * dst + object_size * j) ≡ node_at (listed (graph_in N n root) wg) j
      node_is j h =
          let c : get_or O j 0 < n = listed_low j h in
          let ec : get_or O j 0 ≡ get_or (order (graph_in N n root) wg) j 0 = sym (get_or-take m O j 0 h) ∙ ap (λ (l : List ℕ). get_or l j 0) order_is in
          let z : 0 + object_size * get_or O j 0 ≡ object_size * get_or O j 0 = omega arith in
          gathered_node N O m T E (block_size * dst) E g' j h (rd.raw.packed (get_or O j 0) c)
          ∙ ap (λ (p : ℕ). changed (turn_ref T) (node_in N p)) (sym z)
          ∙ ap (changed (turn_ref T)) (sym (at_nodes N 0 n (get_or O j 0) c))
          ∙ node_agree (turn_ref T) (rename (number (graph_in N n root) wg)) (InRange n)
          (turn_rename T n (number (graph_in N n root) wg) (omega (arith, rd.raw.few)) number_is number_small) (node_at (nodes_in N 0 n) (get_or O j 0)) (inner (get_or O j 0))
          ∙ ap (λ (q : ℕ). rename_node (number (graph_in N n root) wg) (node_at (nodes_in N 0 n) q)) ec
          ∙ sym (get_d_map_lt (λ q. rename_node (number (graph_in N n root) wg) (node_at (nodes_in N 0 n) q)) (order (graph_in N n root) wg) j (node 0 []) 0 (omega (arith, counted, canon-count)))

      count_is : count_in E dst ≡ m
      count_is = ended-count D dst m l m room

      root_is : number (graph_in N n root) wg root ≡ 0
      root_is = canonical_root (canon (graph_in N n root)) (canon-whole (graph_in N n root) wg) (canon-canon (graph_in N n root) wg) _ (ap (λ (h : Graph). h.root) (canon_is (graph_in N n root) wg))

      block_is : graph_at E dst 0 ≡ canon (graph_in N n root)
      unfolding objects_in
      block_is =
          ap₂ graph (ap obj (sym root_is))
          (ap (nodes_in E (block_size * dst)) count_is
          ∙ nodes_ext (nodes_in E (block_size * dst) m) (listed (graph_in N n root) wg)
          (length_nodes _ (block_size * dst) m ∙ counted ∙ canon-count ∙ sym (length-map (order (graph_in N n root) wg) _))
          (λ j l. let h : j < m = omega (arith, length_nodes E (block_size * dst) m) in at_nodes _ (block_size * dst) m j h ∙ node_is j h))
          ∙ sym (canon_is (graph_in N n root) wg)

      filled_is : 1 ≤ m
      filled_is = omega (arith, order_some (graph_in N n root) wg root refl, counted, canon-count)

      whole_is : Whole (graph (leaf undet) (objects_in E dst))
      whole_is =
          let w = subst Whole (sym block_is) (canon-whole (graph_in N n root) wg) in
          record { top = tt; inner = w.inner }

      packed_is : AllPacked E (block_size * dst) (count_in E dst)
      packed_is j i = let h : j < m = omega (arith, count_is) in gathered_packed N O m T E (block_size * dst) E g' j h (rd.raw.packed (get_or O j 0) (listed_low j h))

      block_ok : Block E dst
      unfolding objects_in
      block_ok = record {
        room = omega (arith, same_size, rd.room);
        small = rw count_is small;
        packed = packed_is;
        whole = whole_is;
        distinct = subst (λ (v : Graph). Distinct v.nodes) (sym block_is) (value_distinct (canon (graph_in N n root)) (canon-whole (graph_in N n root) wg) (canon-canon (graph_in N n root) wg));
        level = λ i f h k. rw (ended_below D dst m l m room (block_size * dst + object_size * i + head_size + f) (omega (arith, count_is, small)), ended_level D dst m l m room) (lv.below i f (omega (arith, count_is)) k);
        reach = λ i f h k c. omega (arith, count_is, ended_reach D dst m l m room, code_low E (block_size * dst) (count_in E dst) packed_is i h whole_is f k c);
      }

      pub put_done : Placed (graph_in N n root) W dst E m
      put_done = record {
        count = counted;
        outside = record {
          same = same_size;
          below = λ p h. ended_below D dst m l m room p (omega arith) ∙ g.below p h;
          above = λ p h. ended-above D dst m l m room p (omega arith) ∙ g.above p (omega (arith, small));
        };
        has = record { inside = record { block = block_ok; low = rw count_is filled_is }; is = block_is };
      }
