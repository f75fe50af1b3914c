-- Laws of blocks: held by a reference, taken up, moved.
use Rattle.std.proofs.Common.{ℕ, ◌+◌, ◌*◌, ◌<◌, ◌≤◌, arith, ◌≡◌, refl, sym, ap, ap₂, ◌∙◌, subst, List, [], ◌∷◌, map, length, get_or, take}
use Rattle.std.proofs.Math.Option.{some}
use Rattle.std.proofs.Math.ListN.{get_elem?}
use Rattle.cofj.specs.Values.{Ref, obj, leaf, undet, Node, Graph, graph, rename_node, refs_at, colours}
use Rattle.cofj.specs.Unfolding.{InRange, Whole}
use Rattle.cofj.specs.ReportForm.{up_from}
use Rattle.cofj.proofs.Canon.{node_id}
use Rattle.canon.specs.Figures.{object_size, objects_size, capacity, count_at, block_size}
use Rattle.canon.specs.Layout.{nodes_in, Block, Inside, objects_in, graph_at, count_in, Raw}
use Rattle.canon.specs.Tables.{Filled, Carried}
use Rattle.canon.specs.Numbers.{Ready, Placed, graph_in}
use Rattle.canon.proofs.Nodes.{length_nodes, nodes_same, packed_same}
use Rattle.canon.proofs.Colouring.{length_up, at_up, distinct_colours}
use Rattle.canon.proofs.Rounds.{front_is}
use Rattle.values.specs.declared.ValueRef.{ValueRef}
use Rattle.values.specs.declared.ValueRef.TheVariants.{Object, Mark, Number, Undetermined}
use Rattle.values.specs.Layout.{Holds, HeldBy}
use Rattle.values.specs.Operations.{Taken}

-- ---- a reference that stands for an object
module _ (W : List ℕ) (r : ValueRef) (b i : ℕ) (h : Holds W r) (e : r ≡ Object i b) where
  pub held_inside : Inside W b i
  held_inside = subst (HeldBy W) e h.held

  pub held_block : Block W b
  held_block = held_inside.block

  pub held_room : block_size * b + block_size ≤ length W
  held_room = held_block.room

-- the bytes of an object are there
pub inside_room : (W : List ℕ) (b i : ℕ) → Inside W b i → block_size * b + object_size * i + object_size ≤ length W
inside_room W b i ob = omega (arith, ob.block.room, ob.block.small, ob.low)

-- a reference that is not of one variant is of one of the other three
pub no_object : (P : ValueRef → Type 0) → ((k : ℕ) → P (Mark k)) → ((n : ℕ) → P (Number n)) → P Undetermined → (r : ValueRef) → ((i b : ℕ) → r ≡ Object i b → ⊥) → P r
no_object P m n u (Object i b) h = absurd (h i b refl)
no_object P m n u (Mark k) h = m k
no_object P m n u (Number x) h = n x
no_object P m n u Undetermined h = u

pub no_mark : (P : ValueRef → Type 0) → ((i b : ℕ) → P (Object i b)) → ((n : ℕ) → P (Number n)) → P Undetermined → (r : ValueRef) → ((k : ℕ) → r ≡ Mark k → ⊥) → P r
no_mark P o n u (Object i b) h = o i b
no_mark P o n u (Mark k) h = absurd (h k refl)
no_mark P o n u (Number x) h = n x
no_mark P o n u Undetermined h = u

pub no_number : (P : ValueRef → Type 0) → ((i b : ℕ) → P (Object i b)) → ((k : ℕ) → P (Mark k)) → P Undetermined → (r : ValueRef) → ((x : ℕ) → r ≡ Number x → ⊥) → P r
no_number P o m u (Object i b) h = o i b
no_number P o m u (Mark k) h = m k
no_number P o m u (Number x) h = absurd (h x refl)
no_number P o m u Undetermined h = u

pub no_undetermined : (P : ValueRef → Type 0) → ((i b : ℕ) → P (Object i b)) → ((k : ℕ) → P (Mark k)) → ((n : ℕ) → P (Number n)) → (r : ValueRef) → (r ≡ Undetermined → ⊥) → P r
no_undetermined P o m n (Object i b) h = o i b
no_undetermined P o m n (Mark k) h = m k
no_undetermined P o m n (Number x) h = n x
no_undetermined P o m n Undetermined h = absurd (h refl)

-- ---- taken up
pub taken : (W : List ℕ) (b : ℕ) (I R₀ R : List ℕ) → Filled (λ i. i) (get_or W (block_size * b + count_at) 0) I → Carried W (block_size * b) R₀ 0 (object_size * get_or W (block_size * b + count_at) 0) R
    → Taken W b I R₀ R (get_or W (block_size * b + count_at) 0)
unfolding count_in
taken W b I R₀ R f l = record { count = refl; ids = f; copy = l }

pub nodes_id : (ns : List Node) → map (rename_node (λ i. i)) ns ≡ ns
nodes_id [] = refl
nodes_id (x ∷ xs) = ap₂ {C = List Node} ◌∷◌ (node_id x) (nodes_id xs)

module _ (W : List ℕ) (b : ℕ) (bk : Block W b) where
  pub size_in : length (objects_in W b) ≡ count_in W b
  unfolding objects_in
  size_in = length_nodes W (block_size * b) (count_in W b)

  pub inner_in : (i k : ℕ) (r : Ref) → get_elem? (refs_at (objects_in W b) i) k ≡ some r → InRange (count_in W b) r
  inner_in i k r e = subst (λ (l : ℕ). InRange l r) size_in (bk.whole.inner i k r e)

  pub whole_at : (i : ℕ) → i < count_in W b → Whole (graph_at W b i)
  whole_at i h = record { top = subst (λ (l : ℕ). i < l) (sym size_in) h; inner = bk.whole.inner }

  -- a block's objects have themselves for colours
  pub own_colours : (ns : List Node) (n : ℕ) (I : List ℕ) → ns ≡ objects_in W b → n ≡ count_in W b → Filled (λ i. i) n I → n ≤ length I → take n I ≡ colours ns
  own_colours ns n I en e f long =
      let el : length ns ≡ n = ap length en ∙ size_in ∙ sym e in
      front_is I (up_from 0 n) n (length_up 0 n) long (λ i h. omega (arith, f.at i h, at_up 0 n i h))
      ∙ ap (up_from 0) (sym el ∙ ap length en)
      ∙ sym (distinct_colours (graph (leaf undet) (objects_in W b)) bk.whole bk.distinct)
      ∙ ap colours (sym en)

  -- copied as they are
  module _ (I R₀ R : List ℕ) (n : ℕ) (tk : Taken W b I R₀ R n) where
    copied_nodes : nodes_in R 0 n ≡ objects_in W b
    unfolding objects_in
    copied_nodes = nodes_same R W n 0 (block_size * b) (λ p l. tk.copy.here p l) ∙ ap (nodes_in W (block_size * b)) tk.count

    whole-copied : Whole (graph (leaf undet) (nodes_in R 0 n))
    whole-copied = record { top = tt; inner = λ i k r e. subst (λ (ns : List Node). InRange (length ns) r) (sym copied_nodes) (bk.whole.inner i k r (subst (λ (ns : List Node). get_elem? (refs_at ns i) k ≡ some r) copied_nodes e)) }

    raw-copied : objects_size ≤ length R₀ → Raw R n
    raw-copied room = record {
      few = omega (arith, tk.count, bk.small);
      room = omega (arith, tk.copy.same, tk.count, bk.small);
      packed = λ i h.
          packed_same R W (object_size * i) (block_size * b + object_size * i) (λ f g.
          let ea : object_size * i + f ≡ 0 + (object_size * i + f) = omega arith in
          let eb : block_size * b + object_size * i + f ≡ block_size * b + (object_size * i + f) = omega arith in
          rw (ea, eb) (tk.copy.here (object_size * i + f) (omega arith)))
          (bk.packed i (omega (arith, tk.count)));
      whole = whole-copied;
    }

    pub move_ready : (c dst : ℕ) → objects_size ≤ length R₀ → capacity ≤ length I → c < count_in W b → block_size * dst + block_size ≤ length W → Ready R n I c W dst
    move_ready c dst lr li hc room = record {
      raw = raw-copied lr;
      long = fits;
      coloured = own_colours (nodes_in R 0 n) n I copied_nodes tk.count tk.ids fits;
      inside = omega (arith, tk.count);
      room = room;
    }
      where
        fits : n ≤ length I
        fits = omega (arith, tk.count, bk.small)

    pub moved_out : (c dst m : ℕ) (W' : List ℕ) → Placed (graph_in R n c) W dst W' m → Placed (graph_at W b c) W dst W' m
    moved_out c dst m W' p = subst (λ (g : Graph). Placed g W dst W' m) (ap (graph (obj c)) copied_nodes) p
