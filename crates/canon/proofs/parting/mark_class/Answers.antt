-- The proof of `parting::mark_class`: brings all that refer to an object of class s, by the field of these links, to the fronts of their classes. By a loop, and the laws of Marks and Notes.
use Rattle.std.proofs.Common.{rules}
use Rattle.canon.proofs.Marks as laws
use Rattle.canon.proofs.Notes as notes
use Rattle.canon.proofs.parting.mark_class.Goals as goal
use Rattle.canon.proofs.parting.mark_class.Goals.{then-v-gt0, else-v-gt0}

pub loop-p-init : goal.loop-p-init
loop-p-init c = (
  search rules,
  search rules,
  search rules,
  laws.class_start _ _ _ _ _ _ c.requires.1 c.requires.0 c.requires.2 c.note.ensures,
  notes.notes_refl _ _,
)

pub mark_into-k-requires : goal.mark_into-k-requires
mark_into-k-requires c = (
  c.loop-p.invariant.3.classes,
  c.requires.1,
  c.if-v-gt0.true,
  laws.noted_low _ _ _ _ _ _ c.requires.1 c.requires.0 c.requires.2 c.note.ensures _ _ c.loop-p.invariant.3 c.loop-p.invariant.4 c.loop-p.invariant.1 c.loop-p-test.true,
  c.loop-p.invariant.2,
)

pub loop-p-preserved : goal.loop-p-preserved
loop-p-preserved c = (
  search rules,
  search rules,
  elim c.if-v-gt0.branch [ then-v-gt0 w ↦ rw w.k-is w.mark_into-k.ensures.2 | else-v-gt0 w ↦ rw w.k-is c.loop-p.invariant.2 ],
  elim c.if-v-gt0.branch [
    | then-v-gt0 w ↦
        rw w.t-is (laws.class_more _ _ _ _ _ _ c.requires.1 c.requires.0 c.requires.2 c.note.ensures _ _ c.loop-p.invariant.3 c.loop-p.invariant.4 c.loop-p.invariant.1 c.loop-p-test.true _ w.if-v-gt0.true w.mark_into-k.ensures.0)
    | else-v-gt0 w ↦
        rw w.t-is (laws.class_skip _ _ _ _ _ _ c.requires.1 c.requires.0 c.requires.2 c.note.ensures _ _ c.loop-p.invariant.3 c.loop-p.invariant.4 c.loop-p.invariant.1 c.loop-p-test.true w.if-v-gt0.false)
  ],
  elim c.if-v-gt0.branch [
    | then-v-gt0 w ↦ rw w.t-is (notes.notes_then _ _ _ _ c.loop-p.invariant.4 w.mark_into-k.ensures.1)
    | else-v-gt0 w ↦ rw w.t-is c.loop-p.invariant.4
  ],
)

pub returns : goal.returns
returns c = (
  laws.class_done _ _ _ _ _ _ c.requires.1 c.requires.0 c.requires.2 c.note.ensures _ _ c.loop-p.invariant.3 c.loop-p-test.false,
  c.loop-p.invariant.2,
)
