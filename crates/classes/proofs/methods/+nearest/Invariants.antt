-- The proof of `methods::nearest`. The class or the nearest one above it that has a method of the name. The class falls: the parent is asked, and its number is smaller. By the laws of proofs/Laws.
use Rattle.classes.proofs.methods.+nearest.Given as goal

abbrev pub decreases-nearest : goal.decreases-nearest
decreases-nearest l = l.c
