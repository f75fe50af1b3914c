-- The proof of `object::lay`: the bytes of the object, from place p on. By the laws of Bytes.
use Rattle.maker.proofs.Bytes as laws
use Rattle.maker.proofs.object.lay.Goals as goal

pub returns : goal.returns
returns c = search laws.object_put
