-- The proof of `bytes::same_object`: whether the bytes of two objects are the same. By the laws of Digits.
use Rattle.canon.proofs.Digits as laws
use Rattle.canon.proofs.bytes.same_object.Goals as goal

pub returns-then-eight_at : goal.returns-then-eight_at
returns-then-eight_at c = search laws.object_not

pub returns : goal.returns
returns c = search laws.object_by_last
