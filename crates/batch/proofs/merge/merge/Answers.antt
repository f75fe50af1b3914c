-- The proof of `merge::merge`: the objects of the parts that are reached. By the laws of Quotients.
use Rattle.batch.proofs.Quotients as laws
use Rattle.batch.proofs.merge.merge.Goals as goal

pub returns : goal.returns
returns c = laws.merged_few _ _ _ _ _ _ c.colour.ensures _ _ c.reach-m.ensures _ c.in_ok-k.was c.lay_leads.ensures c.requires.1
