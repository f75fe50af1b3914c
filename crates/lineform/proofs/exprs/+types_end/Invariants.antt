-- `exprs::types_end` meets its contract: a law of ExprLaws for each return. The count falls.
use Rattle.lineform.proofs.exprs.+types_end.Given as goal

abbrev pub decreases-types_end : goal.decreases-types_end
decreases-types_end l = l.n
