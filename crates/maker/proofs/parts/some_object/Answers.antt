-- Whether a part is an object: the parts before are none.
use Rattle.std.proofs.Common.{rules}
use Rattle.maker.proofs.Wheres as laws
use Rattle.maker.proofs.parts.some_object.Goals as goal

pub loop-i-init : goal.loop-i-init
loop-i-init c = (search rules, laws.leaves_none _)

pub returns-in-Object : goal.returns-in-Object
returns-in-Object c = search laws.object_there

pub loop-i-preserved : goal.loop-i-preserved
loop-i-preserved c = (search rules, search laws.leaves_more)

pub returns : goal.returns
returns c = search laws.leaves_all
