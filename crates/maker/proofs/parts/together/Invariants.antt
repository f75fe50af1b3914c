-- The proof of `parts::together`: whether each part lies in block b, or is no object. By the laws of Wheres.
use Rattle.std.proofs.Common.{◌≤◌, ◌≡◌, true}
use Rattle.maker.specs.Adding.{all_stand}
use Rattle.maker.proofs.parts.together.Given as goal

abbrev pub invariant-loop-i : goal.invariant-loop-i
invariant-loop-i l = (l.i ≤ l.n) × (all_stand l.parts l.i l.b ≡ true)
