-- The proof of `object::lay_four`: four bytes that are one number, from place p on. By the laws of Bytes.
use Rattle.std.proofs.Common.{arith, length, ap}
use Rattle.maker.proofs.Bytes as laws
use Rattle.maker.proofs.object.lay_four.Goals as goal

pub copy-requires : goal.copy-requires
copy-requires c = (omega (arith, ap length c.to_le_bytes-bytes.ensures), c.requires)

pub returns : goal.returns
returns c = laws.four-put _ _ _ _ c.args.x (omega (arith, c.ranges.x.fits)) c.to_le_bytes-bytes.ensures c.copy.ensures
