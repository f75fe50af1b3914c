-- The proof of `build::place_table`. All lines of a text with n classes and m methods. The table's bytes are zero before. By the laws of BuildLaws.
use Rattle.classes.proofs.BuildLaws as laws
use Rattle.classes.proofs.build.place_table.Goals as goal

pub returns-in_default : goal.returns-in_default
returns-in_default c = search laws.table_class

pub returns-then-not-place_rest : goal.returns-then-not-place_rest
returns-then-not-place_rest c = search laws.table-rest

pub returns : goal.returns
returns c = search laws.table-good
