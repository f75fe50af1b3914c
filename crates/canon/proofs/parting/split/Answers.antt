-- The proof of `parting::split`: parts class d at its middle, if there are objects on both sides; the smaller side is a new class. By the laws of Backs and Parts.
use Rattle.std.proofs.Common.{rules, arith}
use Rattle.canon.proofs.Backs as backs
use Rattle.canon.proofs.Parts as laws
use Rattle.canon.proofs.parting.split.Goals as goal

pub returns-then-e-g : goal.returns-then-e-g
returns-then-e-g c = backs.split_back _ _ _ c.requires.0 _ c.requires.1 _ c.lay_out.ensures

pub returns-then-n-m : goal.returns-then-n-m
returns-then-n-m c = backs.split_back _ _ _ c.requires.0 _ c.requires.1 _ c.lay_out-then-n-m.ensures

pub relabel-requires : goal.relabel-requires
relabel-requires c = (
  laws.parts_placed _ _ _ _ _ _ _ _ _ _ c.requires.0 c.lay_out-then-g-a-2.ensures c.lay_out-then-g-a-2-2.ensures,
  search rules,
  omega (arith, c.requires.0.ends _ c.requires.1),
)

pub returns-then-g-a-2 : goal.returns-then-g-a-2
returns-then-g-a-2 c =
    laws.split_low _ _ _ _ _ _ _ c.requires.0 c.requires.1 c.if-n-m.false c.if-g-a.false c.if-e-g.false
    c.lay_out-then-g-a-2.ensures c.lay_out-then-g-a-2-2.ensures c.relabel.ensures

pub relabel-requires-2 : goal.relabel-requires-2
relabel-requires-2 c = (laws.parts_placed _ _ _ _ _ _ _ _ _ _ c.requires.0 c.lay_out-2.ensures c.lay_out-3.ensures, search rules, c.requires.0.ends _ c.requires.1)

pub returns : goal.returns
returns c =
    laws.split_high _ _ _ _ _ _ _ c.requires.0 c.requires.1 c.if-n-m.false c.if-g-a.false c.if-e-g.false c.lay_out-2.ensures c.lay_out-3.ensures
    c.relabel-2.ensures
