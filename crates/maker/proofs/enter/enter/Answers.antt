-- The proof of `enter::enter`: the object, among the objects of block host: its number there, none if it is new and the block is full. By the laws of Enters.
use Rattle.std.proofs.Common.{rules}
use Rattle.maker.proofs.Enters as laws
use Rattle.maker.proofs.enter.enter.Goals as goal

pub find-requires : goal.find-requires
find-requires c = (search rules, search laws.enter_count, search rules)

pub returns-in-Some : goal.returns-in-Some
returns-in-Some c = search laws.enter_found

pub enter_new-requires : goal.enter_new-requires
enter_new-requires c = (search rules, search rules, search laws.enter_missed)
