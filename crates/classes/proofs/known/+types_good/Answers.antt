-- The proof of `known::types_good`. Types whose classes are known and whose tags are closed, one after the other. How many are left falls. By the laws of LineLaws.
use Rattle.classes.proofs.LineLaws as laws
use Rattle.classes.proofs.known.+types_good.Goals as goal

pub returns-then-k-eq0 : goal.returns-then-k-eq0
returns-then-k-eq0 t c = search laws.types_done

pub returns-then-s-at : goal.returns-then-s-at
returns-then-s-at t c = search laws.types_end_lem

pub returns-then-s-a : goal.returns-then-s-a
returns-then-s-a t c = search laws.types_short

pub returns-then-not-class_known : goal.returns-then-not-class_known
returns-then-not-class_known t c = search laws.types_unknown

pub returns-then-not-closed : goal.returns-then-not-closed
returns-then-not-closed t c = search laws.types_open

pub returns : goal.returns
returns t c = search laws.types_next
