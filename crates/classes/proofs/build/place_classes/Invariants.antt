-- The proof of `build::place_classes`. The first n lines, as classes 1 to n. By the laws of BuildLaws.
use Rattle.std.proofs.Common.{◌≡◌, ◌≤◌, ◌-◌, ◌+◌}
use Rattle.classes.specs.Placing.{class_placed}
use Rattle.classes.specs.Building.{lines_placed}
use Rattle.classes.proofs.build.place_classes.Given as goal

abbrev pub invariant-loop-k : goal.invariant-loop-k
invariant-loop-k l =
    (l.k ≤ l.n)
    × (lines_placed (λ line c B. class_placed line c l.n B) l.s l.n 0 1 l.initial.t
    ≡ lines_placed (λ line c B. class_placed line c l.n B) l.s (l.n - l.k) l.at (l.k + 1) l.t)
