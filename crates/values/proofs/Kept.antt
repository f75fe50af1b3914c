-- What the operations leave as it was: every value but those in the block that is written.
use Rattle.std.proofs.Common.{ℕ, ◌+◌, ◌*◌, ◌<◌, ◌≤◌, arith, ◌≡◌, refl, ap, false, List, length, get_or}
use native.Mathlib.Decide.{dec_lt}
use borrow.Author.Tests.{eqb-false}
use Rattle.cofj.specs.Values.{Node, graph, obj, canon}
use Rattle.canon.specs.Figures.{count_at, level_at, reach_at, block_size}
use Rattle.canon.specs.Layout.{Block, objects_in, count_in, level_in, reach_in, Outside}
use Rattle.values.specs.declared.ValueRef.{ValueRef}
use Rattle.values.specs.declared.ValueRef.TheVariants.{Object, Mark, Number, Undetermined}
use Rattle.values.specs.Layout.{value_of, Holds, lies_in}
use Rattle.values.proofs.Copies.{block_moves}

-- a reference still stands for the value that it stood for
pub record Kept (W W' : List ℕ) (r : ValueRef) : Type 0 where
  pub held : Holds W' r
  pub is : value_of W' r ≡ value_of W r

-- the bytes of block b are the same
module _ (W W' : List ℕ) (b : ℕ) (same : length W' ≡ length W) (byte : (p : ℕ) → block_size * b ≤ p → p < block_size * b + block_size → get_or W' p 0 ≡ get_or W p 0) where
  stays : Block W b → (objects_in W' b ≡ objects_in W b) × Block W' b
  unfolding count_in level_in reach_in
  stays bk =
      block_moves W W' b b (byte (block_size * b + count_at) (omega arith) (omega arith)) (byte (block_size * b + level_at) (omega arith) (omega arith)) (byte (block_size * b + reach_at) (omega arith) (omega arith))
      (λ k h. byte (block_size * b + k) (omega arith) (omega (arith, bk.small))) (omega (arith, bk.room)) bk

  pub object_kept : (i : ℕ) → Holds W (Object i b) → Kept W W' (Object i b)
  unfolding count_in
  object_kept i h =
      let s = stays h.held.block in
      record {
        held = record { held = record { block = s.1; low = omega (arith, h.held.low, byte (block_size * b + count_at) (omega arith) (omega arith)) } };
        is = ap (λ (ns : List Node). canon (graph (obj i) ns)) s.0;
      }

-- whoever holds a value in another block still holds it
pub kept : (d : ℕ) (W W' : List ℕ) → Outside d W W' → (r : ValueRef) → lies_in d r ≡ false → Holds W r → Kept W W' r
unfolding lies_in
kept d W W' o (Object i b) n h = object_kept W W' b o.same (λ p l m. go p l m (dec_lt b d)) i h
  where
    go : (p : ℕ) → block_size * b ≤ p → p < block_size * b + block_size → Dec (b < d) → get_or W' p 0 ≡ get_or W p 0
    go p l m (yes q) = o.below p (omega arith)
    go p l m (no q) = o.above p (omega (arith, q, eqb-false b d n))
kept d W W' o (Mark k) n h = record { held = record { held = h.held }; is = refl }
kept d W W' o (Number x) n h = record { held = record { held = h.held }; is = refl }
kept d W W' o Undetermined n h = record { held = record { held = tt }; is = refl }
