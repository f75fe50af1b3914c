-- The proof of `parting::relabel`: the objects at places a to e are of class m. By a loop, and the laws of Relabels.
use Rattle.std.proofs.Common.{rules}
use Rattle.canon.proofs.Relabels as laws
use Rattle.canon.proofs.parting.relabel.Goals as goal

pub loop-p-preserved : goal.loop-p-preserved
loop-p-preserved c = (search rules, search rules, search rules, search laws.relabel_more)
