-- The proof of `chain::fit`. Whether a class is another or stands below it. The class falls: the parent is asked, and its number is smaller. By the laws of proofs/Laws.
use Rattle.classes.proofs.chain.+fit.Given as goal

abbrev pub decreases-fit : goal.decreases-fit
decreases-fit l = l.c
