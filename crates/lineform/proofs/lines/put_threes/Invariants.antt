-- `lines::put_threes` meets its contract. The loop keeps `Puts`; three bytes more are a law of DecodeLaws, that they are bytes one of HexLaws.
use Rattle.std.proofs.Common.{◌-◌, length}
use Rattle.lineform.specs.Answers.{Puts}
use Rattle.lineform.proofs.lines.put_threes.Given as goal

abbrev pub invariant-loop-i : goal.invariant-loop-i
invariant-loop-i l = Puts l.text l.initial.out l.out l.from l.to l.i l.o

abbrev pub decreases-loop-i : goal.decreases-loop-i
decreases-loop-i l = length l.text - l.i
