-- `hex::Digits::all` meets its contract: every entry of the table is right, by one test of all of them.
use Rattle.std.proofs.Common.{refl}
use Rattle.lineform.proofs.HexLaws as laws
use Rattle.lineform.proofs.hex.Digits.all.Goals as goal

pub invariant_of-result : goal.invariant_of-result
invariant_of-result c = record { right = laws.all_values _ refl refl }
