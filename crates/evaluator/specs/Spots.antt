-- Where evaluations stand, one after the other: one level in, further on in a list, fields of fields in, in a body.
-- Not here: what is asked there (Steps).
use Rattle.std.specs.Prelude.{ℕ, ◌+◌, ◌-◌, ◌*◌, eqb}
use Rattle.cofj.specs.Limits.{nesting_limit}
use Rattle.classes.specs.Machine.{pick}
use Rattle.values.specs.declared.ValueRef.{ValueRef}
use Rattle.values.specs.declared.ValueRef.TheVariants.{Object, Mark, Number, Undetermined}
use Rattle.evaluator.specs.declared.spot.Spot.{Spot}

-- one level in, at another place
abbrev pub inner_spot : Spot → ℕ → Spot
inner_spot p at = record { at = at; block = p.block; nesting = p.nesting - 1; calls = p.calls; opened = p.opened; objects = p.objects }

-- the same level, at another place and block
abbrev pub moved_spot : Spot → ℕ → ℕ → Spot
moved_spot p at block = record { at = at; block = block; nesting = p.nesting; calls = p.calls; opened = p.opened; objects = p.objects }

-- d fields of fields in
abbrev pub down_spot : Spot → ℕ → Spot
down_spot p d = record { at = p.at + 2 * d; block = p.block; nesting = p.nesting - d; calls = p.calls; opened = p.opened; objects = p.objects }

-- a body at a place: nested as deep as may be, one call fewer, four blocks on
abbrev pub body_spot : Spot → ℕ → ℕ → Spot
body_spot p at opened = record { at = at; block = p.block + 4; nesting = nesting_limit; calls = p.calls - 1; opened = opened; objects = p.objects }

-- the block for what follows a value: the next, if it lies in this one
abbrev pub past_of : ℕ → ValueRef → ℕ
past_of b (Object i c) = pick (eqb c b) (b + 1) b
past_of b (Mark k) = b
past_of b (Number n) = b
past_of b Undetermined = b
