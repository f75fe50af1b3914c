-- The proof of `parts::largest`: the block with the most objects, of block b and those of the parts but block 0. By the laws of Makes and Hosts.
use Rattle.std.proofs.Common.{◌≤◌, ◌≡◌}
use Rattle.maker.specs.Merging.{largest_of}
use Rattle.maker.proofs.parts.largest.Given as goal

abbrev pub invariant-loop-i : goal.invariant-loop-i
invariant-loop-i l = (l.i ≤ l.n) × (l.d ≡ largest_of l.work l.parts l.i l.b)
