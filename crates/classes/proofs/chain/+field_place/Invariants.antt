-- The proof of `chain::field_place`. Where the type of a field stands, inherited ones first. The class falls: the parent is asked, and its number is smaller. By the laws of proofs/Laws.
use Rattle.classes.proofs.chain.+field_place.Given as goal

abbrev pub decreases-field_place : goal.decreases-field_place
decreases-field_place l = l.c
