-- The proof of `parting::bring`: brings object z, at place l of class c, to the class's middle a. By the laws of Fronts and Notes.
use Rattle.canon.proofs.Fronts as fronts
use Rattle.canon.proofs.parting.bring.Goals as goal

pub returns : goal.returns
returns c = let s2 = c.stand-2.ensures in
    let s1 = c.stand.ensures in
    (fronts.mark_moved _ _ _ _ c.requires.0 c.requires.1.low _ _ _ _ _ c.requires.1 s1 s2, fronts.mark_notes _ _ _ _ c.requires.0 c.requires.1.low _ _ _ _ _ c.requires.1 s1 s2)
