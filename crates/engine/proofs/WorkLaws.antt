-- Laws of the work bytes cleared, and of the part of them that a run is lent.
use Rattle.std.proofs.Common.{ℕ, ◌≤◌, arith, ◌≡◌, sym, ◌∙◌, List, ◌++◌, length, take, drop, replicate, drop_at, length-take-le}
use Rattle.std.proofs.Math.Seq.{length_front}
use Rattle.cofj.specs.Limits.{work_size}
use Rattle.cofj.specs.Calls.{zeros, cleared}
use Rattle.evaluator.specs.Figures.{work_room}

pub clear_done : (W X : List ℕ) → work_size ≤ length W → X ≡ replicate (length (take work_size W)) 0 → X ++ drop work_size W ≡ cleared W
unfolding zeros cleared
clear_done W X h e = rw (e, length-take-le work_size W h)

pub front-count : (W : List ℕ) → work_size ≤ length W → work_size ≡ length (take work_size W)
front-count W h = sym (length-take-le work_size W h)

pub front_room : (W : List ℕ) → work_size ≤ length W → work_room ≤ length (take work_size W)
front_room W h = omega (arith, length-take-le work_size W h)

-- what stands there after a part of this length is put in front
pub whole_room : (W X : List ℕ) → length X ≡ length (take work_size W) → work_size ≤ length W → work_size ≤ length (X ++ drop work_size W)
whole_room W X e h = omega (arith, length_front W X work_size e)

cleared_same : (W X : List ℕ) → drop work_size X ≡ drop work_size W → cleared X ≡ cleared W
unfolding cleared
cleared_same W X e = rw e

-- what was done in the first bytes is gone
pub cleared-part : (W X : List ℕ) → length X ≡ length (take work_size W) → work_size ≤ length W → cleared (X ++ drop work_size W) ≡ cleared W
cleared-part W X e h = cleared_same W (X ++ drop work_size W) (drop_at X (drop work_size W) work_size (e ∙ length-take-le work_size W h))
