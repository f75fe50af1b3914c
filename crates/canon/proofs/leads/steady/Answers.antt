-- The proof of `leads::steady`: whether each of n objects looks as the one of its colour does. By a loop, and the laws of Firsts.
use Rattle.canon.proofs.Lifts as lifts
use Rattle.canon.proofs.leads.steady.Goals as goal

pub look_same-requires : goal.look_same-requires
look_same-requires c = let low = c.requires.1.low _ c.loop-i-test.true in
    (lifts.turnable _ _ _ c.requires.0 c.requires.1.room _ c.loop-i-test.true, lifts.turnable _ _ _ c.requires.0 c.requires.1.room _ low)
