-- The blocks that main begins with: the objects without fields, and the input, which is the value that it was where it was lent.
-- Not here: main's run (RunLaws).
use Rattle.std.proofs.Common.{ℕ, ◌*◌, ◌≤◌, arith, ◌≡◌, sym, ap, ◌∙◌, Bool, true, false, not, List, length}
use Rattle.std.proofs.Math.Bool.{false≢true}
use Rattle.cofj.specs.Values.{Node, obj, graph, canon}
use Rattle.classes.proofs.LineLaws.{not_true, not_false}
use Rattle.canon.specs.Figures.{count_at, level_at, reach_at, block_size}
use Rattle.canon.specs.Layout.{Inside, Block, objects_in, count_in, level_in, reach_in}
use Rattle.canon.specs.Tables.{Carried}
use Rattle.values.proofs.Copies.{block_moves}
use Rattle.maker.specs.Fieldless.{LaidFieldless}
use Rattle.maker.proofs.FieldlessLaws.{fieldless_kept}
use Rattle.evaluator.specs.Figures.{input_block, work_room}
use Rattle.evaluator.specs.Main.{Given, Laid}

module _ (fed : Bool) (B W0 W : List ℕ) (lb : LaidFieldless W0 W) where
  pub laid_none : not fed ≡ true → Laid fed B W0 W
  laid_none n = let e = not_true fed n in record {
    same = lb.outside.same;
    fieldless = lb.fieldless;
    held = λ h. absurd (false≢true (sym e ∙ h));
    is = λ h. absurd (false≢true (sym e ∙ h));
  }

  module _ (W1 : List ℕ) (cp : Carried B 0 W (block_size * input_block) block_size W1) (room : work_room ≤ length W0) where
    count_same : count_in W1 input_block ≡ count_in B 0
    unfolding count_in
    count_same = cp.here count_at (omega arith)

    -- the block as it was lent
    same_block : Block B 0 → (objects_in W1 input_block ≡ objects_in B 0) × Block W1 input_block
    unfolding level_in reach_in
    same_block bk =
        block_moves B W1 0 input_block count_same (cp.here level_at (omega arith)) (cp.here reach_at (omega arith))
        (λ k h. cp.here k (omega (arith, bk.small))) (omega (arith, cp.same, lb.outside.same)) bk

    pub laid_input : not fed ≡ false → Given fed B → Laid fed B W0 W1
    laid_input n g =
        let ob : Inside B 0 0 = g.inside (not_false fed n) in
        let m = same_block ob.block in
        record {
          same = cp.same ∙ lb.outside.same;
          fieldless = fieldless_kept input_block W W1 (record { same = cp.same; below = cp.below }) (omega arith) lb.fieldless;
          held = λ h. record { held = record { block = m.1; low = omega (arith, count_same, ob.low) } };
          is = λ h. ap (λ (ns : List Node). canon (graph (obj 0) ns)) m.0;
        }
