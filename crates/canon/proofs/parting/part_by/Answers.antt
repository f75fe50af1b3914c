-- The proof of `parting::part_by`: parts the classes by who refers into class s, by each field below w. By a loop, and the laws of Parts.
use Rattle.std.proofs.Common.{rules, ◌∙◌}
use Rattle.canon.proofs.Parts as laws
use Rattle.canon.proofs.parting.part_by.Goals as goal

pub loop-f-preserved : goal.loop-f-preserved
loop-f-preserved c = (
  c.split_all-r.ensures.same ∙ c.mark_class-k.ensures.0.same ∙ c.loop-f.invariant.0,
  search rules,
  laws.fields_more _ _ _ _ _ _ _ _ _ _ _ _ c.requires.1 c.loop-f-test.true c.requires.2 c.loop-f.invariant.2 c.mark_class-k.ensures.0
      c.split_all-r.ensures,
)
