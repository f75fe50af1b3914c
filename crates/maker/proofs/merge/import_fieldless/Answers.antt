-- The proof of `merge::import_fieldless`: object i of block b, which has no fields, in block host: its number there, if there is room. By the laws of Imported.
use Rattle.std.proofs.Common.{rules}
use Rattle.maker.proofs.Imported as laws
use Rattle.maker.proofs.merge.import_fieldless.Goals as goal

pub enter-requires : goal.enter-requires
enter-requires c = (search rules, search laws.fieldless_fits)

pub returns : goal.returns
returns c = search laws.fieldless_imported
