-- The proof of `build::place_methods`. The m lines from `from` on, as methods 0 to m - 1; `rights` says where their right expressions stand. By the laws of BuildLaws.
use Rattle.std.proofs.Common.{◌≡◌, get_or, ◌≤◌, ◌-◌}
use Rattle.classes.specs.Placing.{method_placed}
use Rattle.classes.specs.Building.{lines_placed}
use Rattle.classes.proofs.build.place_methods.Given as goal

abbrev pub invariant-loop-i : goal.invariant-loop-i
invariant-loop-i l =
    (l.i ≤ l.m)
    × (lines_placed (λ line c B. method_placed line c (get_or l.rights c 0) l.n B) l.s l.m l.initial.at 0 l.initial.t
    ≡ lines_placed (λ line c B. method_placed line c (get_or l.rights c 0) l.n B) l.s (l.m - l.i) l.at l.i l.t)
