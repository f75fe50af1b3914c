-- The proof of `sort::count_classes`: how many objects of block host are of each class, modulo 64. By the laws of Sorts.
use Rattle.std.proofs.Common.{ℕ, ◌≤◌, ◌≡◌, length, get_or}
use Rattle.canon.specs.Figures.{capacity}
use Rattle.maker.proofs.sort.count_classes.Given as goal

abbrev pub invariant-loop-y : goal.invariant-loop-y
invariant-loop-y l = (l.y ≤ l.t) × (l.t ≤ capacity) × (length l.count ≡ 64) × ((k : ℕ) → get_or l.count k 0 ≤ l.y)
