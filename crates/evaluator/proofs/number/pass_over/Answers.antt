-- What a branch gives, with the place after the next one: a law for each return.
use Rattle.evaluator.proofs.AnswerLaws as laws
use Rattle.evaluator.proofs.number.pass_over.Goals as goal

pub overflow_cast-result : goal.overflow_cast-result
overflow_cast-result c = search laws.skip_small
