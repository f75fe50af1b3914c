-- `lines::decode_lines` meets its contract. The loop keeps `Reading` (DecodeLaws), its pace (w places and a line of o - w - 1 bytes took at least
-- (4o - w - 4) / 2 characters), and that a line is open where the last character is passed.
use Rattle.std.proofs.Common.{◌≤◌, ◌+◌, ◌*◌, ◌-◌, ◌≡◌, length}
use Rattle.lineform.proofs.DecodeLaws.{Reading}
use Rattle.lineform.proofs.lines.decode_lines.Given as goal

abbrev pub invariant-loop-i : goal.invariant-loop-i
invariant-loop-i l =
    (l.w + 1 ≤ l.o) × (l.i + l.w + 1 ≤ l.last + l.o) × (4 * l.o ≤ 2 * l.i + l.w + 4) × (l.i ≤ length l.text) × (length l.out ≡ length l.initial.out)
    × Reading l.text l.initial.out l.out l.i l.w l.o

abbrev pub decreases-loop-i : goal.decreases-loop-i
decreases-loop-i l = length l.text - l.i
