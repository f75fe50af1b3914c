-- The proof of `lockstep::step_code`: two codes met: equal, or objects that are partners then. By the laws of Pairs.
use Rattle.std.proofs.Common.{arith}
use Rattle.values.proofs.Pairs as laws
use Rattle.values.proofs.lockstep.step_code.Goals as goal

pub returns-then-first-second : goal.returns-then-first-second
returns-then-first-second c = search laws.code_other

pub returns-then-m-n : goal.returns-then-m-n
returns-then-m-n c = search laws.code_number

pub returns-then-first-ge-FIRST_LEAF : goal.returns-then-first-ge-FIRST_LEAF
returns-then-first-ge-FIRST_LEAF c = search laws.code_equal

pub returns-then-second-ge-FIRST_LEAF : goal.returns-then-second-ge-FIRST_LEAF
returns-then-second-ge-FIRST_LEAF c = search laws.code_second

pub bounds-queue-tail : goal.bounds-queue-tail
bounds-queue-tail c = c.requires.room c.if-first-ge-FIRST_LEAF.false (omega (arith, c.if-known-eq0.true))

pub returns-then-known-eq0 : goal.returns-then-known-eq0
returns-then-known-eq0 c = laws.code_new _ _ _ _ _ _ _ c.if-first-ge-FIRST_LEAF.false c.if-second-ge-FIRST_LEAF.false (omega (arith, c.if-known-eq0.true))

pub returns-then-known-second : goal.returns-then-known-second
returns-then-known-second c =
    laws.code_known _ _ _ _ _ _ _ c.if-first-ge-FIRST_LEAF.false c.if-second-ge-FIRST_LEAF.false (λ e. omega (arith, c.if-known-eq0.false))
    (omega (arith, c.if-known-second.true))

pub returns : goal.returns
returns c =
    laws.code_taken _ _ _ _ _ _ _ c.if-first-ge-FIRST_LEAF.false c.if-second-ge-FIRST_LEAF.false (λ e. omega (arith, c.if-known-eq0.false))
    (λ e. omega (arith, c.if-known-second.false))
