-- The proof of `overrides::overrides`. Whether all methods that override have the types of the method above. The loop has found none that differs. By the laws of OverrideLaws.
use Rattle.std.proofs.Common.{◌≡◌, ◌-◌}
use Rattle.classes.specs.Overriding.{overrides_of, overrides_in}
use Rattle.classes.proofs.overrides.overrides.Given as goal

abbrev pub invariant-loop-i : goal.invariant-loop-i
invariant-loop-i l = overrides_of l.t ≡ overrides_in l.t (l.i-end - l.i) l.i
