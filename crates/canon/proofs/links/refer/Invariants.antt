-- The proof of `links::refer`: the rows hung up by all four fields. By a loop, and the laws of Refers.
use Rattle.std.proofs.Common.{◌≡◌, ◌≤◌, length}
use Rattle.canon.specs.Figures.{code_count}
use Rattle.canon.specs.Links.{Referred}
use Rattle.canon.proofs.links.refer.Given as goal

abbrev pub invariant-loop-f : goal.invariant-loop-f
invariant-loop-f l = (length l.fields ≡ code_count) × (l.w ≤ code_count) × (l.f ≤ code_count) × Referred l.raw l.n l.f l.initial.fields l.fields
