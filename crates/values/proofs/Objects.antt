-- What a block's bytes say of its objects, and what trees say of references. Not here: objects met in step (Partners, Queues).
use Rattle.std.proofs.Common.{ℕ, ◌+◌, ◌*◌, ◌<◌, ◌≤◌, arith, ◌≡◌, refl, sym, ap₂, ◌∙◌, subst, List, [], length, get_or}
use Rattle.std.proofs.Math.Option.{some}
use Rattle.cofj.specs.Values.{Ref, obj, leaf, Leaf, mark, undet, num, Node, node_at, refs_at}
use Rattle.cofj.specs.Unfolding.{object, at_leaf, Same, InRange, Whole}
use Rattle.cofj.proofs.Trees.{same_cls, same_count}
use Rattle.canon.specs.Figures.{object_size, head_size, code_count, numbers_at, first_leaf, block_size}
use Rattle.canon.specs.Layout.{ref_of, code_of, number_beside, number_at, Alike, count_in, objects_in, graph_at, Block, Inside}
use Rattle.canon.proofs.Nodes as nodes
use Rattle.canon.proofs.Nodes.{some_at, length_nodes, ref_object, ref_undet, ref_number, ref_mark}

-- ---- an object of a block, by its bytes
module _ (W : List ℕ) (b : ℕ) (bk : Block W b) where
  pub size : length (objects_in W b) ≡ count_in W b
  unfolding objects_in
  size = length_nodes W (block_size * b) (count_in W b)

  pub whole_at : (i : ℕ) → i < count_in W b → Whole (graph_at W b i)
  whole_at i h = record { top = omega (arith, size); inner = bk.whole.inner }

  module _ (x : ℕ) (hx : x < count_in W b) where
    pub cls_is : get_or W (block_size * b + object_size * x) 0 ≡ (node_at (objects_in W b) x).cls
    unfolding objects_in
    cls_is = nodes.class_is W (block_size * b) (count_in W b) bk.packed x hx

    pub count_is : get_or W (block_size * b + object_size * x + 1) 0 ≡ length (refs_at (objects_in W b) x)
    unfolding objects_in
    count_is = nodes.count_is W (block_size * b) (count_in W b) bk.packed x hx

    pub code_is : (f : ℕ) → f < code_count → get_or W (block_size * b + object_size * x + head_size + f) 0 ≡ code_of (get_or (refs_at (objects_in W b) x) f (leaf undet))
    unfolding objects_in
    code_is = nodes.code_is W (block_size * b) (count_in W b) bk.packed x hx

    pub number_is : (f : ℕ) → f < code_count → number_at W (block_size * b + object_size * x + numbers_at + 2 * f) ≡ number_beside (get_or (refs_at (objects_in W b) x) f (leaf undet))
    unfolding objects_in
    number_is = nodes.number_is W (block_size * b) (count_in W b) bk.packed x hx

    pub in_range : (f : ℕ) → f < get_or W (block_size * b + object_size * x + 1) 0 → InRange (count_in W b) (get_or (refs_at (objects_in W b) x) f (leaf undet))
    in_range f h =
        subst (λ (l : ℕ). InRange l (get_or (refs_at (objects_in W b) x) f (leaf undet))) size
        (bk.whole.inner x f _ (some_at (refs_at (objects_in W b) x) f (omega (arith, count_is))))

-- ---- two objects look alike
module _ (W : List ℕ) (b x : ℕ) (ib : Inside W b x) where
  pub count_read : block_size * b + object_size * x + 1 < length W
  count_read = omega (arith, ib.block.room, ib.block.small, ib.low)

  pub code_read : (k : ℕ) → k < get_or W (block_size * b + object_size * x + 1) 0 → block_size * b + object_size * x + head_size + k < length W
  code_read k h = omega (arith, ib.block.room, ib.block.small, ib.low, (ib.block.packed x ib.low).count)

  pub number_read : (k : ℕ) → k < get_or W (block_size * b + object_size * x + 1) 0 → block_size * b + object_size * x + numbers_at + 2 * k + 2 ≤ length W
  number_read k h = omega (arith, ib.block.room, ib.block.small, ib.low, (ib.block.packed x ib.low).count)

module _ (W : List ℕ) (b x c y : ℕ) where
  module _ (ib : Inside W b x) (ic : Inside W c y) where
    pub same_alike : Same (objects_in W b) (obj x) (objects_in W c) (obj y) → Alike W (block_size * b + object_size * x) (block_size * c + object_size * y)
    same_alike s = record {
      cls = cls_is W b ib.block x ib.low ∙ same_cls (objects_in W b) (objects_in W c) x y s ∙ sym (cls_is W c ic.block y ic.low);
      count = count_is W b ib.block x ib.low ∙ same_count (objects_in W b) (objects_in W c) x y s ∙ sym (count_is W c ic.block y ic.low);
    }

-- ---- what two references with one tree say of each other, and the other way round
leaf_is : (ns ms : List Node) (l : Leaf) (s : Ref) → Same ns (leaf l) ms s → leaf l ≡ s
leaf_is ns ms l (obj j) e = let z : some (at_leaf l) ≡ some (object _ _) = e [] in cc
leaf_is ns ms l (leaf m) e = let z : some (at_leaf l) ≡ some (at_leaf m) = e [] in cc

pub leaf_refs : (ns ms : List Node) (r s : Ref) → InRange first_leaf r → Same ns r ms s → first_leaf ≤ code_of r → r ≡ s
leaf_refs ns ms (obj i) s hr e h = absurd (omega arith)
leaf_refs ns ms (leaf l) s hr e h = leaf_is ns ms l s e

-- the reference that a code and the number beside it stand for
pub ref_back : (r : Ref) → InRange first_leaf r → ref_of (code_of r) (number_beside r) ≡ r
ref_back (obj i) h = ref_object i 0 h
ref_back (leaf (mark k)) h = ref_mark k 0
ref_back (leaf undet) h = ref_undet 0
ref_back (leaf (num n)) h = ref_number n

pub codes_refs : (r s : Ref) → InRange first_leaf r → InRange first_leaf s → code_of r ≡ code_of s → number_beside r ≡ number_beside s → r ≡ s
codes_refs r s hr hs e n = sym (ref_back r hr) ∙ ap₂ ref_of e n ∙ ref_back s hs

pub leaf_range : (r : Ref) → InRange first_leaf r → first_leaf ≤ code_of r → InRange 0 r
leaf_range (obj i) h k = absurd (omega arith)
leaf_range (leaf l) h k = tt

pub is_object_lem : (r : Ref) → code_of r < first_leaf → r ≡ obj (code_of r)
is_object_lem (obj i) h = refl
is_object_lem (leaf (mark k)) h = absurd (omega arith)
is_object_lem (leaf undet) h = absurd (omega arith)
is_object_lem (leaf (num n)) h = absurd (omega arith)
