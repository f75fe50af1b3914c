-- The proof of `enter::enter_over`: the object among the objects of a block, not looked for where it can not be there. By the laws of Enters.
use Rattle.std.proofs.Common.{rules}
use Rattle.maker.proofs.Enters as laws
use Rattle.maker.proofs.enter.enter_over.Goals as goal

pub enter_new-requires : goal.enter_new-requires
enter_new-requires c = (search rules, search rules, search laws.fresh_missed)
