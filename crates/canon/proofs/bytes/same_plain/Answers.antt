-- The proof of `bytes::same_plain`: whether the bytes of two objects that are no codes are the same. By the laws of Digits.
use Rattle.canon.proofs.Digits as laws
use Rattle.canon.proofs.bytes.same_plain.Goals as goal

pub returns-then-two_at-2 : goal.returns-then-two_at-2
returns-then-two_at-2 c = search laws.plain_first

pub returns : goal.returns
returns c = search laws.plain_last
