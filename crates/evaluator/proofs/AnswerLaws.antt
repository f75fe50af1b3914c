-- Answers turned into others, and the block after a value: a place passed over stays one; leaves, and what is no number.
-- Not here: what answers stand for (StepLaws, NumberLaws).
use Rattle.std.proofs.Common.{ℕ, ◌<◌, arith, ◌≡◌, refl, List}
use Rattle.classes.specs.Skipping.{Skipped}
use Rattle.values.specs.declared.ValueRef.{ValueRef}
use Rattle.values.specs.declared.ValueRef.TheVariants.{Object, Number}
use Rattle.values.proofs.Blocks.{no_object, no_number}
use Rattle.evaluator.specs.declared.Stop.TheVariants.{Stuck}
use Rattle.evaluator.specs.declared.Evaluated.{Evaluated}
use Rattle.evaluator.specs.Answers.{Done, value_at, operand_of}
use Rattle.std.specs.declared.result.Result.TheVariants.{Ok, Err}
use Rattle.evaluator.specs.Spots.{past_of}

-- ---- the block after a value
module _ (b : ℕ) (v : ValueRef) where
  pub past_leaf : ((i b : ℕ) → v ≡ Object i b → ⊥) → b ≡ past_of b v
  past_leaf h = no_object (λ (r : ValueRef). b ≡ past_of b r) (λ k. refl) (λ n. refl) refl v h

-- ---- numbers
module _ (o : Done) where
  module _ (got : Evaluated) (e : o ≡ Ok got) where
    pub operand_other : ((x : ℕ) → got.value ≡ Number x → ⊥) → Err Stuck ≡ operand_of o
    operand_other h = rw e (no_number (λ (r : ValueRef). Err Stuck ≡ operand_of (value_at r got.next)) (λ i b. refl) (λ k. refl) refl got.value h)

-- ---- a branch passed over
module _ (T : List ℕ) where
  -- a place stays one
  pub skip_small : (at r : ℕ) → at < 65536 → Skipped T at r → r < 65536
  skip_small at r l s = s.low 65536 (omega arith) l
