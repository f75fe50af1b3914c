-- The proof of `fieldless::lay_fieldless`: object c of block 0 is the object of class c without fields, and there is no other. By the laws of FieldlessLaws.
use Rattle.std.proofs.Common.{rules}
use Rattle.maker.proofs.FieldlessLaws as laws
use Rattle.maker.proofs.fieldless.lay_fieldless.Goals as goal

pub copy-requires : goal.copy-requires
copy-requires c = (search rules, search rules)

pub returns : goal.returns
returns c = search laws.fieldless_laid
