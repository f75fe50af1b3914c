-- The value of a code: a law for each case.
use Rattle.values.proofs.RefLaws as laws
use Rattle.values.proofs.refs.ref_of.Goals as goal

pub returns-then-c-lt-FIRST_LEAF : goal.returns-then-c-lt-FIRST_LEAF
returns-then-c-lt-FIRST_LEAF c = search laws.from_object

pub returns-then-c-eq-UNDETERMINED : goal.returns-then-c-eq-UNDETERMINED
returns-then-c-eq-UNDETERMINED c = search laws.from_undetermined

pub returns-then-c-eq-NUMBER : goal.returns-then-c-eq-NUMBER
returns-then-c-eq-NUMBER c = search laws.from_number

pub returns : goal.returns
returns c = search laws.from_mark
