-- The proof of `leads::part`: colours of n objects that no two equal ones differ in: the first object of each class. By the laws of Classing.
use Rattle.std.proofs.Common.{rules, ◌+◌, arith}
use Rattle.canon.specs.Figures.{code_count, capacity}
use Rattle.canon.proofs.Hangs as hangs
use Rattle.canon.proofs.Refers as refers
use Rattle.canon.proofs.Classing as laws
use Rattle.canon.proofs.leads.part.Goals as goal

-- a row's number is a byte: a block has room for so few objects
pub overflow_add-rows : goal.overflow_add-rows
overflow_add-rows c = omega (arith, c.requires.0.few)

pub link-w-requires : goal.link-w-requires
link-w-requires c = (laws.row_codes _ _ c.requires.0, search rules, search rules, hangs.free_new (capacity + 1) _ (omega (arith, c.requires.0.few)), refers.all_free (capacity + 1) code_count _ (omega (arith, c.requires.0.few)) (omega arith))

pub returns : goal.returns
returns c = laws.parted_coarse _ _ c.requires.0 _ _ c.link-w.ensures.0 _ _ _ _ _ _ c.begin.ensures c.part_looks-m.ensures c.part_fields-r.ensures c.lead.ensures
