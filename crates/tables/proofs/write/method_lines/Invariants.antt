-- `write::method_lines` meets its contract. The loop keeps: the lines of the first i methods are put, up to w.
use Rattle.std.proofs.Common.{◌≤◌, ◌+◌, ◌*◌, ◌≡◌, length}
use Rattle.lineform.specs.Writes.{wrote, put_text}
use Rattle.tables.specs.Writings.{methods_in}
use Rattle.tables.proofs.write.method_lines.Given as goal

abbrev pub invariant-loop-i : goal.invariant-loop-i
invariant-loop-i l = (l.i ≤ l.m) × (l.w ≤ l.at + 511 * l.i) × (length l.out ≡ length l.initial.out) × (wrote l.w l.out ≡ put_text l.initial.out l.at (methods_in l.t l.i))
