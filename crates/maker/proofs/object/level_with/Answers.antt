-- The proof of `object::level_with`: a level for objects of this level and one with these codes. By the laws of Codes.
use Rattle.std.proofs.Common.{rules}
use Rattle.maker.proofs.Codes as laws
use Rattle.maker.proofs.object.level_with.Goals as goal

pub returns : goal.returns
returns c = (search laws.codes_level, search rules)
