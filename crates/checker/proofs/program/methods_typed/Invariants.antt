-- `program::methods_typed` meets its contract. Invariant: the methods from i on decide.
use Rattle.checker.proofs.ProgramLaws as laws
use Rattle.checker.proofs.program.methods_typed.Given as goal

abbrev pub invariant-loop-i : goal.invariant-loop-i
invariant-loop-i l = laws.Rest l.t l.n l.i
