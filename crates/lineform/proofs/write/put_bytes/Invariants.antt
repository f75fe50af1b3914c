-- `write::put_bytes` meets its contract. The loop keeps: the digits of the first i bytes are put, up to w.
use Rattle.std.proofs.Common.{◌+◌, ◌*◌, ◌≡◌, length, take}
use Rattle.lineform.specs.Writes.{wrote, put, hex_bytes}
use Rattle.lineform.proofs.write.put_bytes.Given as goal

abbrev pub invariant-loop-b : goal.invariant-loop-b
invariant-loop-b l = (l.w ≡ l.at + 2 * l.b-index) × (length l.out ≡ length l.initial.out) × (wrote l.w l.out ≡ put l.initial.out l.at (hex_bytes (take l.b-index l.s)))
