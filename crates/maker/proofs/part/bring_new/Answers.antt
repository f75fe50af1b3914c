-- The proof of `part::bring_new`: object i of block src, with what it leads to, in block host: its number there, if there is room. By the laws of Imports.
use Rattle.maker.proofs.Imports as laws
use Rattle.maker.proofs.part.bring_new.Goals as goal

pub sort-requires : goal.sort-requires
sort-requires c = search laws.bring_sorting

pub join-requires : goal.join-requires
join-requires c = search laws.bring_joining

pub returns-then-not-join : goal.returns-then-not-join
returns-then-not-join c = search laws.bring_full

pub overflow_sub-result : goal.overflow_sub-result
overflow_sub-result c = laws.bring_some _ _ _ _ c.requires.0 c.requires.1 c.requires.2 _ _ c.reach-m.ensures _ _ c.sort.ensures _ _ _ c.join.ensures c.if-not-join.false

pub returns : goal.returns
returns c = search laws.bring_done
