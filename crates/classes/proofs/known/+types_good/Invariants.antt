-- The proof of `known::types_good`. Types whose classes are known and whose tags are closed, one after the other. How many are left falls. By the laws of LineLaws.
use Rattle.classes.proofs.known.+types_good.Given as goal

abbrev pub decreases-types_good : goal.decreases-types_good
decreases-types_good l = l.k
