-- The proof of `place::place_class`. Class k of n: its number, its parent, its own fields' types, and how many fields it has in all. By the laws of PlaceLaws.
use Rattle.classes.proofs.PlaceLaws as laws
use Rattle.classes.proofs.place.place_class.Goals as goal

pub returns-then-l-lt4 : goal.returns-then-l-lt4
returns-then-l-lt4 c = search laws.class_short

pub returns-then-l-k : goal.returns-then-l-k
returns-then-l-k c = search laws.class_number

pub returns-then-k-p : goal.returns-then-k-p
returns-then-k-p c = search laws.class_parent

pub returns-then-not-types_good : goal.returns-then-not-types_good
returns-then-not-types_good c = search laws.class_types

pub returns-then-above-gt-FIELDS : goal.returns-then-above-gt-FIELDS
returns-then-above-gt-FIELDS c = search laws.class_above

pub returns-then-own-gt-FIELDS : goal.returns-then-own-gt-FIELDS
returns-then-own-gt-FIELDS c = search laws.class_own

pub returns-then-total-gt-FIELDS : goal.returns-then-total-gt-FIELDS
returns-then-total-gt-FIELDS c = search laws.class_total

pub returns : goal.returns
returns c = let h = rw c.class_row-row.ensures at c.copy.ensures in search laws.class_placed_lem
