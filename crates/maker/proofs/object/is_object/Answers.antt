-- The proof of `object::is_object`: whether the object at place p is this one. By the laws of Bytes.
use Rattle.maker.proofs.Bytes as laws
use Rattle.maker.proofs.object.is_object.Goals as goal

pub returns-then-four_at-o : goal.returns-then-four_at-o
returns-then-four_at-o c = search laws.other_codes

pub returns-then-eight_at-o : goal.returns-then-eight_at-o
returns-then-eight_at-o c = search laws.other_numbers

pub returns-then-work-p : goal.returns-then-work-p
returns-then-work-p c = search laws.other_class

pub returns : goal.returns
returns c = laws.by_count _ _ _ _ _ _ c.requires.0 _ c.four_at.ensures _ c.eight_at.ensures c.requires.1 c.if-four_at-o.false c.if-eight_at-o.false c.if-work-p.false
