-- The proof of `colours::shade`: a field's byte as it looks. By the laws of Shades.
use Rattle.batch.proofs.Shades as laws
use Rattle.batch.proofs.colours.shade.Goals as goal

pub returns-then-b-lt-NUMBER_FIELD : goal.returns-then-b-lt-NUMBER_FIELD
returns-then-b-lt-NUMBER_FIELD c = search laws.look_part

pub returns-then-b-eq-NUMBER_FIELD : goal.returns-then-b-eq-NUMBER_FIELD
returns-then-b-eq-NUMBER_FIELD c = search laws.look_number

pub returns : goal.returns
returns c = search laws.look_none
