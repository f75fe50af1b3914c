-- The proof of `make::make`: a new object, unless it has more objects than the run allows. By the laws of Limits, one for each return.
use Rattle.std.proofs.Common.{rules}
use Rattle.maker.proofs.Limits as laws
use Rattle.maker.proofs.make.make.Goals as goal

pub returns-in_err-v : goal.returns-in_err-v
returns-in_err-v c = let large = c.in_err-v.ensures in rw c.from_residual.ensures (search laws.limit_none)

pub fits-requires : goal.fits-requires
fits-requires c = let made = c.in_ok-v.ensures in (search laws.limit_held, search laws.limit_away, search laws.limit_room, search rules)

pub returns-then-fits : goal.returns-then-fits
returns-then-fits c = let made = c.in_ok-v.ensures in search laws.limit_yes

pub returns : goal.returns
returns c = let made = c.in_ok-v.ensures in search laws.limit_no
