-- The proof of `lockstep::same_trees`: whether object i of block b and object j of block c unfold to the same tree. By the laws of Blocks and Steps.
use Rattle.std.proofs.Common.{rules, arith}
use Rattle.values.proofs.Steps as laws
use Rattle.values.proofs.lockstep.same_trees.Goals as goal

pub returns-then-b-c : goal.returns-then-b-c
returns-then-b-c c = laws.one_block _ _ _ _ _ (search rules) (search rules) (omega arith)

pub returns : goal.returns
returns c = search laws.roots_differ
