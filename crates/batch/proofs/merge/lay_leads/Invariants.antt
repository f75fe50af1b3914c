-- The proof of `merge::lay_leads`: the parts that lead the k colours, as objects. By a loop, and the laws of Layings.
use Rattle.std.proofs.Common.{◌≤◌, ◌≡◌, length}
use Rattle.batch.specs.Laying.{Laid}
use Rattle.batch.proofs.merge.lay_leads.Given as goal

abbrev pub invariant-loop-c : goal.invariant-loop-c
invariant-loop-c l = (l.c ≤ l.k) × (length l.raw ≡ length l.initial.raw) × Laid l.parts l.cs l.lead l.c l.initial.raw l.raw
