-- The first block of a part: the parts before have none.
use Rattle.std.proofs.Common.{◌≤◌, ◌≡◌}
use Rattle.std.specs.declared.option.Option.TheVariants.{None}
use Rattle.maker.specs.Adding.{first_block}
use Rattle.maker.proofs.parts.first_block.Given as goal

abbrev pub invariant-loop-i : goal.invariant-loop-i
invariant-loop-i l = (l.i ≤ l.n) × (first_block l.parts l.i ≡ None)
