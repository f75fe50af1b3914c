-- `hex::Digits::pair` meets its contract: both values are small, so that the sum fits.
use Rattle.lineform.proofs.HexLaws as laws
use Rattle.lineform.proofs.hex.Digits.pair.Goals as goal

pub overflow_mul-result : goal.overflow_mul-result
overflow_mul-result c = search laws.first_fits

pub overflow_add-result : goal.overflow_add-result
overflow_add-result c = search laws.both_fit
