-- The proof of `lockstep::step_object`: meets object x of block b and its partner y of block c. By the laws of Blocks, Partners and canon's Nodes.
use Rattle.std.proofs.Common.{rules}
use Rattle.canon.proofs.Nodes as nodes
use Rattle.values.proofs.Partners as laws
use Rattle.values.proofs.lockstep.step_object.Goals as goal

pub step_fields-requires : goal.step_fields-requires
step_fields-requires c = (search rules, search nodes.alike_yes)

pub returns : goal.returns
returns c = search laws.object_differs
