-- `write::class_lines` meets its contract. The loop keeps: the lines of classes 1 to k are put, up to w.
use Rattle.std.proofs.Common.{◌≤◌, ◌+◌, ◌*◌, ◌≡◌, length}
use Rattle.lineform.specs.Writes.{wrote, put_text}
use Rattle.tables.specs.Writings.{classes_in}
use Rattle.tables.proofs.write.class_lines.Given as goal

abbrev pub invariant-loop-k : goal.invariant-loop-k
invariant-loop-k l = (l.k ≤ l.n) × (l.w ≤ l.at + 25 * l.k) × (length l.out ≡ length l.initial.out) × (wrote l.w l.out ≡ put_text l.initial.out l.at (classes_in l.t l.k))
