-- The proof of `chain::fit`. Whether a class is another or stands below it. The class falls: the parent is asked, and its number is smaller. By the laws of proofs/Laws.
use Rattle.classes.proofs.Laws as laws
use Rattle.classes.proofs.chain.+fit.Goals as goal

pub returns-then-c-d : goal.returns-then-c-d
returns-then-c-d t c = search laws.fit_same

pub returns-then-c-p : goal.returns-then-c-p
returns-then-c-p t c = search laws.fit_top

pub returns : goal.returns
returns t c = search laws.fit_up
