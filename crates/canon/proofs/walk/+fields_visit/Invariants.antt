-- The proof of the cycle of `walk::visit` and `walk::fields`: the objects met, depth first. At each call the measure μ falls: `visit` goes on with one step
-- fewer, k, and `fields` with the same k to `visit` and to the fields that are left, 4 - f of them. Each return is a law of Walks.
use Rattle.std.proofs.Common.{◌+◌, ◌*◌, ◌-◌}
use Rattle.canon.proofs.walk.+fields_visit.Given as goal

abbrev pub decreases-fields : goal.decreases-fields
decreases-fields l = l.k * 20 + 11 + (4 - l.f)

abbrev pub decreases-visit : goal.decreases-visit
decreases-visit l = l.k * 20 + 10
