-- `judge::value_fits` meets its contract: a loop in which the objects left fall, and the laws of Judges.
use Rattle.batch.proofs.Judges as laws
use Rattle.batch.proofs.judge.value_fits.Goals as goal

pub returns-then-not-fit : goal.returns-then-not-fit
returns-then-not-fit c = search laws.value_root

pub loop-i-init : goal.loop-i-init
loop-i-init c = (search laws.count_small, search laws.objects_none)

pub object_holds-requires : goal.object_holds-requires
object_holds-requires c = search laws.each_inside

pub returns-then-not-object_holds : goal.returns-then-not-object_holds
returns-then-not-object_holds c = search laws.value_not

pub returns : goal.returns
returns c = search laws.value_done
