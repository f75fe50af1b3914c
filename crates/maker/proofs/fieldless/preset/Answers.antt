-- `fieldless::preset` meets its contract: every byte is right, by one test of all of them.
use Rattle.std.proofs.Common.{refl}
use Rattle.maker.proofs.FieldlessLaws as laws
use Rattle.maker.proofs.fieldless.preset.Goals as goal

pub returns : goal.returns
returns c = laws.preset_is _ refl refl refl refl
