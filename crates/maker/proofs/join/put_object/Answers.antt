-- The proof of `join::put_object`: object x of block src, its codes turned, at the place of object y of block host. By the laws of Additions.
use Rattle.std.proofs.Common.{arith}
use Rattle.maker.proofs.Additions as laws
use Rattle.maker.proofs.join.put_object.Goals as goal

pub turn-a-requires : goal.turn-a-requires
turn-a-requires c = let p = c.requires in laws.put_code _ _ _ _ p.0 p.4 2 (omega arith) (omega arith)

pub turn-b-requires : goal.turn-b-requires
turn-b-requires c = let p = c.requires in laws.put_code _ _ _ _ p.0 p.4 3 (omega arith) (omega arith)

pub turn-c-requires : goal.turn-c-requires
turn-c-requires c = let p = c.requires in laws.put_code _ _ _ _ p.0 p.4 4 (omega arith) (omega arith)

pub turn-d-requires : goal.turn-d-requires
turn-d-requires c = let p = c.requires in laws.put_code _ _ _ _ p.0 p.4 5 (omega arith) (omega arith)

pub returns : goal.returns
returns c = search laws.put_done
