-- The proof of `part::import`: an object of another block, of which nothing is known, in the host. By the laws of Imports.
use Rattle.std.proofs.Common.{rules, refl}
use Rattle.maker.proofs.Imports as laws
use Rattle.canon.proofs.Zeros.{zero_at}
use Rattle.canon.specs.Figures.{capacity}
use Rattle.maker.proofs.part.import.Goals as goal

pub same_number-requires : goal.same_number-requires
same_number-requires c = (search rules, search rules, search laws.mapped_none, zero_at capacity c.args.i)

pub returns-then-same_number : goal.returns-then-same_number
returns-then-same_number c = search laws.import_same

pub bring_new-requires : goal.bring_new-requires
bring_new-requires c = (search rules, search rules, search rules, laws.import_mapped _ _ _ _ c.requires.1 capacity refl _ _ c.same_number.ensures c.if-same_number.false)
