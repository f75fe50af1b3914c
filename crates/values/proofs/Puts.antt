-- The block written, of objects that are distinct and of objects that are merged: the laws of `put_distinct` and `put_merged`.
-- Not here: which objects are distinct (Apart).
use Rattle.std.proofs.Common.{ℕ, ◌+◌, ◌*◌, ◌<◌, ◌≤◌, arith, ◌≡◌, sym, ap, ◌∙◌, subst, List, length, get_or, take}
use Rattle.cofj.specs.Values.{obj, leaf, undet, Node, graph, colours, canon}
use Rattle.cofj.specs.Unfolding.{Whole}
use Rattle.cofj.proofs.Unique.{canon-canon}
use Rattle.canon.specs.Figures.{object_size, head_size, block_size}
use Rattle.canon.specs.Layout.{nodes_in, Distinct, Block, objects_in, count_in, ended}
use Rattle.canon.specs.Tables.{Carried}
use Rattle.canon.specs.Numbers.{Levels, Ready, Placed, graph_in}
use Rattle.canon.proofs.Nodes.{packed_same, nodes_same, length_nodes, AllPacked, code_low, ended_size, ended_below, ended-above, ended-count, ended_level, ended_reach}
use Rattle.values.specs.declared.ValueRef.TheVariants.{Object}
use Rattle.values.specs.Operations.{Gives}
use Rattle.values.specs.Binding.{Rooted}

-- ---- the objects written to a block as they are
module _ (R : List ℕ) (n i : ℕ) (W : List ℕ) (dst : ℕ) (rd : Rooted R n i W dst) where
  whole-graph : Whole (graph_in R n i)
  whole-graph = record { top = omega (arith, length_nodes R 0 n, rd.inside); inner = rd.raw.whole.inner }

  module _ (d : Distinct (nodes_in R 0 n)) (D : List ℕ) (w : Carried R 0 W (block_size * dst) (object_size * n) D) (l : ℕ) (lv : Levels R 0 n l) where
    abbrev E : List ℕ
    E = ended D dst n l n

    wide : block_size * dst + block_size ≤ length D
    wide = omega (arith, w.same, rd.room)

    same_size : length E ≡ length W
    same_size = ended_size D dst n l n wide ∙ w.same

    written : (p : ℕ) → p < object_size * n → get_or E (block_size * dst + p) 0 ≡ get_or R p 0
    written p h = ended_below D dst n l n wide (block_size * dst + p) (omega (arith, rd.raw.few)) ∙ w.here p h ∙ ap (λ (k : ℕ). get_or R k 0) (let z : 0 + p ≡ p = omega arith in z)

    size_is : count_in E dst ≡ n
    size_is = ended-count D dst n l n wide

    objects_same : objects_in E dst ≡ nodes_in R 0 n
    unfolding objects_in
    objects_same = ap (nodes_in E (block_size * dst)) size_is ∙ nodes_same E R n (block_size * dst) 0 (λ p h. let z : 0 + p ≡ p = omega arith in rw z (written p h))

    packed_is : AllPacked E (block_size * dst) (count_in E dst)
    packed_is j h =
        packed_same E R (block_size * dst + object_size * j) (object_size * j)
        (λ f g. let z : block_size * dst + object_size * j + f ≡ block_size * dst + (object_size * j + f) = omega arith in rw z (written (object_size * j + f) (omega (arith, size_is))))
        (rd.raw.packed j (omega (arith, size_is)))

    whole_is : Whole (graph (leaf undet) (objects_in E dst))
    whole_is = subst (λ (ns : List Node). Whole (graph (leaf undet) ns)) (sym objects_same) rd.raw.whole

    block_is : Block E dst
    unfolding objects_in
    block_is = record {
      room = omega (arith, same_size, rd.room);
      small = rw size_is rd.raw.few;
      packed = packed_is;
      whole = whole_is;
      distinct = subst Distinct (sym objects_same) d;
      level = λ j f h k.
          let y : block_size * dst + object_size * j + head_size + f ≡ block_size * dst + (object_size * j + head_size + f) = omega arith in
          let z : 0 + object_size * j ≡ object_size * j = omega arith in
          rw (y, written (object_size * j + head_size + f) (omega (arith, size_is)), ended_level D dst n l n wide) (rw z at (lv.below j f (omega (arith, size_is)) k));
      reach = λ j f h k c. omega (arith, size_is, ended_reach D dst n l n wide, code_low E (block_size * dst) (count_in E dst) packed_is j h whole_is f k c);
    }

    pub put_distinct_lem : Gives W dst E (Object i dst) (canon (graph_in R n i))
    put_distinct_lem = record {
      held = record { held = record { block = block_is; low = rw size_is rd.inside } };
      is = ap (λ (ns : List Node). canon (graph (obj i) ns)) objects_same;
      place = omega arith;
      outside = record {
        same = same_size;
        below = λ p h. ended_below D dst n l n wide p (omega arith) ∙ w.below p h;
        above = λ p h. ended-above D dst n l n wide p (omega arith) ∙ w.above p (omega (arith, rd.raw.few));
      };
    }

  -- merged and numbered
  pub merge_ready : (C : List ℕ) → n ≤ length C → take n C ≡ colours (nodes_in R 0 n) → Ready R n C i W dst
  merge_ready C h e = record { raw = rd.raw; long = h; coloured = e; inside = rd.inside; room = rd.room }

  pub put_merged_lem : (W' : List ℕ) (m : ℕ) → Placed (graph_in R n i) W dst W' m → Gives W dst W' (Object 0 dst) (canon (graph_in R n i))
  put_merged_lem W' m p =
      record {
        held = record { held = p.has.inside };
        is = ap canon p.has.is ∙ canon-canon (graph_in R n i) whole-graph;
        place = omega arith;
        outside = p.outside;
      }
