-- The proof of `merge::import_object`: object i of block b, in block host, whose first objects are those of block base: its number there, if there is room. By the laws of Imported.
use Rattle.maker.proofs.Imported as laws
use Rattle.maker.proofs.merge.import_object.Goals as goal

pub returns-then-b-base : goal.returns-then-b-base
returns-then-b-base c = search laws.object_base

pub returns-then-b-host : goal.returns-then-b-host
returns-then-b-host c = search laws.object_host

pub returns : goal.returns
returns c = search laws.object_other
