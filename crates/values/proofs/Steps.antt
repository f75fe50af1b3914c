-- Where comparing begins, and what it answers: one law for each return of `roots_in_step`, `same_trees` and `equal`.
-- Not here: the queue gone over (Queues).
use Rattle.std.proofs.Common.{ℕ, ◌+◌, ◌*◌, ◌<◌, arith, ◌≡◌, refl, sym, ap, ap₂, ◌∙◌, subst, Bool, true, false, List, [], ◌∷◌, eqb, length, get_or, set, replicate, get_or-set_other, eq-eqb, ne_eqb}
use native.Mathlib.Decide.{ℕ_discrete}
use mathlib.Core.Logic.{inr}
use Rattle.std.proofs.Math.ListN.{length-replicate}
use Rattle.cofj.specs.Values.{obj, Node, Graph, canon, eq_ref, eq_node, eq_nodes, eq_graph, mark_of, number_of, undetermined}
use Rattle.cofj.specs.Unfolding.{follow, Same}
use Rattle.cofj.proofs.Basics.{true_both, eq_ref_refl, eq_node_refl}
use Rattle.cofj.proofs.Traces.{eq_graph_true}
use Rattle.cofj.proofs.Unique.{same_canon, canon_tree}
use Rattle.canon.specs.Figures.{object_size, capacity, block_size}
use Rattle.canon.specs.Layout.{alike_at, count_in, objects_in, graph_at, Block, Inside}
use Rattle.canon.proofs.Nodes.{alike_no}
use Rattle.canon.proofs.Zeros.{zero_at, zeros-few}
use Rattle.values.specs.declared.ValueRef.{ValueRef}
use Rattle.values.specs.declared.ValueRef.TheVariants.{Object, Mark, Number, Undetermined}
use Rattle.values.specs.Layout.{value_of}
use Rattle.values.specs.Stepping.{Paired, AllSame, InStep}
use Rattle.values.proofs.Blocks.{no_object, no_mark, no_number, no_undetermined}
use Rattle.values.proofs.Pairs.{put, pair_new, pairs_stay}
use Rattle.values.proofs.Objects.{size, same_alike, whole_at}

-- ---- where comparing begins
-- a table of partners that are known to unfold to the same trees, and an empty queue
pub told_paired : (W : List ℕ) (b c : ℕ) (T Q : List ℕ) → length T ≡ capacity → length Q ≡ capacity → AllSame W b c T → ((x y : ℕ) → get_or T x 0 ≡ y + 1 → y < count_in W c) → Paired W b c T Q 0
told_paired W b c T Q lt lq al wi = record {
  table = lt;
  queue = lq;
  free = omega (arith, zeros-few capacity T);
  low = λ q h. absurd (omega arith);
  there = λ q h. absurd (omega arith);
  listed = λ x y e. inr (al.same x y e);
  within = wi;
}

-- and one pair more, which is to be gone over
module _ (W : List ℕ) (b c : ℕ) (bb : Block W b) (T Q : List ℕ) (lt : length T ≡ capacity) (lq : length Q ≡ capacity) (al : AllSame W b c T) (wi : (x y : ℕ) → get_or T x 0 ≡ y + 1 → y < count_in W c)
    (i j : ℕ) (hi : i < count_in W b) (hj : j < count_in W c) (e : get_or T i 0 ≡ 0) where
  pub told_roots : Paired W b c (set T i (j + 1)) (set Q 0 i) 1
  told_roots = pair_new W b c T Q 0 i j (told_paired W b c T Q lt lq al wi) bb.small hi hj e

  root_here : get_or (set T i (j + 1)) i 0 ≡ j + 1
  root_here = put W b c T Q 0 i j (told_paired W b c T Q lt lq al wi) bb.small hi hj e

  module _ (T2 : List ℕ) (r : Bool) (s : InStep W b c (set T i (j + 1)) T2 r) where
    pub told_same : r ≡ true → Same (objects_in W b) (obj i) (objects_in W c) (obj j)
    told_same z = (s.yes z).same i j (s.pairs z i j root_here)

    pub told_kept : r ≡ true → (x y : ℕ) → get_or T x 0 ≡ y + 1 → get_or T2 x 0 ≡ y + 1
    told_kept z x y q = s.pairs z x y (pairs_stay W b c T Q 0 i j (told_paired W b c T Q lt lq al wi) bb.small hi hj e x y q)

    pub told_differ : r ≡ false → Same (objects_in W b) (obj i) (objects_in W c) (obj j) → ⊥
    told_differ z t = s.no z (record { same = λ x y q. go x y q (ℕ_discrete x i) })
      where
        go : (x y : ℕ) → get_or (set T i (j + 1)) x 0 ≡ y + 1 → Dec (x ≡ i) → Same (objects_in W b) (obj x) (objects_in W c) (obj y)
        go x y q (yes p) =
            let v : j + 1 ≡ y + 1 = sym root_here ∙ ap (λ (k : ℕ). get_or (set T i (j + 1)) k 0) (sym p) ∙ q in
            let w : j ≡ y = omega arith in
            λ l. ap (λ (k : ℕ). follow (objects_in W b) (obj k) l) p ∙ t l ∙ ap (λ (k : ℕ). follow (objects_in W c) (obj k) l) w
        go x y q (no p) = al.same x y (sym (get_or-set_other T i x (j + 1) 0 p) ∙ q)

-- ---- two objects
eq_nodes_refl : (ns : List Node) → eq_nodes ns ns ≡ true
unfolding eq_nodes
eq_nodes_refl [] = refl
eq_nodes_refl (n ∷ ns) = true_both (eq_node n n) (eq_nodes ns ns) (eq_node_refl n) (eq_nodes_refl ns)

eq_graph_refl : (g : Graph) → eq_graph g g ≡ true
unfolding eq_graph
eq_graph_refl g = true_both (eq_ref g.root g.root) (eq_nodes g.nodes g.nodes) (eq_ref_refl g.root) (eq_nodes_refl g.nodes)

eq_graph_same : (g h : Graph) → g ≡ h → true ≡ eq_graph g h
eq_graph_same g h e = subst (λ (k : Graph). true ≡ eq_graph g k) e (sym (eq_graph_refl g))

not_true_false : (b : Bool) → (b ≡ true → ⊥) → false ≡ b
not_true_false true h = absurd (h refl)
not_true_false false h = refl

module _ (W : List ℕ) (b i c j : ℕ) (ib : Inside W b i) (ic : Inside W c j) where
  trees_same : Same (objects_in W b) (obj i) (objects_in W c) (obj j) → true ≡ eq_graph (canon (graph_at W b i)) (canon (graph_at W c j))
  trees_same e =
      eq_graph_same (canon (graph_at W b i)) (canon (graph_at W c j))
      (same_canon (graph_at W b i) (graph_at W c j) (whole_at W b ib.block i ib.low) (whole_at W c ic.block j ic.low) e)

  trees_differ : (Same (objects_in W b) (obj i) (objects_in W c) (obj j) → ⊥) → false ≡ eq_graph (canon (graph_at W b i)) (canon (graph_at W c j))
  trees_differ d =
      not_true_false (eq_graph (canon (graph_at W b i)) (canon (graph_at W c j)))
      (λ e. d (canon_tree (graph_at W b i) (graph_at W c j) (whole_at W b ib.block i ib.low) (whole_at W c ic.block j ic.low) (eq_graph_true _ _ e)))

  pub one_block : b ≡ c → eqb i j ≡ eq_graph (canon (graph_at W b i)) (canon (graph_at W c j))
  one_block z = go (ℕ_discrete i j)
    where
      go : Dec (i ≡ j) → eqb i j ≡ eq_graph (canon (graph_at W b i)) (canon (graph_at W c j))
      go (yes e) = eq-eqb i j e ∙ trees_same (λ p. ap₂ {A = ℕ} {B = ℕ} (λ k l. follow (objects_in W k) (obj l) p) z e)
      go (no d) =
          ne_eqb i j d
          ∙ trees_differ (λ s. d (ic.block.distinct.apart i j
          (omega (arith, size W c ic.block, ib.low, ap (count_in W) z)) (omega (arith, size W c ic.block, ic.low))
          (λ p. ap (λ (k : ℕ). follow (objects_in W k) (obj i) p) (sym z) ∙ s p)))

  pub roots_differ : (r : Bool) → r ≡ alike_at W (block_size * b + object_size * i) (block_size * c + object_size * j) → r ≡ false → false ≡ eq_graph (canon (graph_at W b i)) (canon (graph_at W c j))
  roots_differ r l z = trees_differ (λ s. alike_no W _ _ r l z (same_alike W b i c j ib ic s))

  -- the roots are the first pair
  module _ (k : ℕ) (ek : k ≡ capacity) where
    none_told : AllSame W b c (replicate k 0)
    none_told = record { same = λ x y e. absurd (omega (arith, zero_at k x)) }

    none_within : (x y : ℕ) → get_or (replicate k 0) x 0 ≡ y + 1 → y < count_in W c
    none_within x y e = absurd (omega (arith, zero_at k x))

    long : length (replicate {A = ℕ} k 0) ≡ capacity
    long = length-replicate k 0 ∙ ek

    pub roots_paired : Paired W b c (set (replicate k 0) i (j + 1)) (set (replicate k 0) 0 i) 1
    roots_paired = told_roots W b c ib.block (replicate k 0) (replicate k 0) long long none_told none_within i j ib.low ic.low (zero_at k i)

    pub roots_in_step_lem : (T : List ℕ) (r : Bool) → InStep W b c (set (replicate k 0) i (j + 1)) T r → r ≡ eq_graph (canon (graph_at W b i)) (canon (graph_at W c j))
    roots_in_step_lem T true s = trees_same (told_same W b c ib.block (replicate k 0) (replicate k 0) long long none_told none_within i j ib.low ic.low (zero_at k i) T true s refl)
    roots_in_step_lem T false s = trees_differ (told_differ W b c ib.block (replicate k 0) (replicate k 0) long long none_told none_within i j ib.low ic.low (zero_at k i) T false s refl)

-- ---- two references
module _ (W : List ℕ) (a b : ValueRef) where
  pub equal_objects : (x i y j : ℕ) (r : Bool) → a ≡ Object i x → b ≡ Object j y → r ≡ eq_graph (canon (graph_at W x i)) (canon (graph_at W y j)) → r ≡ eq_graph (value_of W a) (value_of W b)
  equal_objects x i y j r ea eb e = rw (ea, eb) e

  pub object_other : (x i : ℕ) → a ≡ Object i x → ((j y : ℕ) → b ≡ Object j y → ⊥) → false ≡ eq_graph (value_of W a) (value_of W b)
  unfolding eq_graph canon
  object_other x i ea = rw ea (no_object (λ u. false ≡ eq_graph (canon (graph_at W x i)) (value_of W u)) (λ k. refl) (λ n. refl) refl b)

  pub mark_other : (k : ℕ) → a ≡ Mark k → ((k : ℕ) → b ≡ Mark k → ⊥) → false ≡ eq_graph (value_of W a) (value_of W b)
  unfolding eq_graph canon
  mark_other k ea = rw ea (no_mark (λ u. false ≡ eq_graph (mark_of k) (value_of W u)) (λ i x. refl) (λ n. refl) refl b)

  pub number_other : (n : ℕ) → a ≡ Number n → ((x : ℕ) → b ≡ Number x → ⊥) → false ≡ eq_graph (value_of W a) (value_of W b)
  unfolding eq_graph canon
  number_other n ea = rw ea (no_number (λ u. false ≡ eq_graph (number_of n) (value_of W u)) (λ i x. refl) (λ k. refl) refl b)

  pub undetermined_other : a ≡ Undetermined → (b ≡ Undetermined → ⊥) → false ≡ eq_graph (value_of W a) (value_of W b)
  unfolding eq_graph canon
  undetermined_other ea = rw ea (no_undetermined (λ u. false ≡ eq_graph undetermined (value_of W u)) (λ i x. refl) (λ k. refl) (λ n. refl) b)

  alone : (x : Bool) → x ≡ (elim x as (λ _. Bool) [ true ↦ true | false ↦ false ])
  alone true = refl
  alone false = refl

  pub mark_mark : (k l : ℕ) → a ≡ Mark k → b ≡ Mark l → eqb k l ≡ eq_graph (value_of W a) (value_of W b)
  unfolding eq_graph eq_nodes
  mark_mark k l ea eb = rw (ea, eb) (alone (eqb k l))

  pub number_number : (m n : ℕ) → a ≡ Number m → b ≡ Number n → eqb m n ≡ eq_graph (value_of W a) (value_of W b)
  unfolding eq_graph eq_nodes
  number_number m n ea eb = rw (ea, eb) (alone (eqb m n))

  pub undetermined_both : a ≡ Undetermined → b ≡ Undetermined → true ≡ eq_graph (value_of W a) (value_of W b)
  unfolding eq_graph eq_nodes
  undetermined_both ea eb = rw (ea, eb)
