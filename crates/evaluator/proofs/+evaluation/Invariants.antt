-- The proof of the cycle of evaluation, twelve functions. At each call the number μ falls (FallLaws): a call that is opened takes one from the calls that may be
-- opened, a part takes one from the nesting left, and otherwise the functions come in the order eval_number, eval, eval_item, eval_field and eval_list, the others.
-- Each return is a law of StepLaws, NewSteps, FieldLaws, WalkLaws, NumberSteps, CallSteps or SideSteps.
use Rattle.evaluator.proofs.WalkLaws as walks
use Rattle.evaluator.proofs.FieldLaws as fields
use Rattle.evaluator.proofs.FallLaws.{μ, μ-call}
use Rattle.evaluator.proofs.+evaluation.Given as goal

abbrev pub invariant-eval::eval_field-loop-j : goal.invariant-eval::eval_field-loop-j
invariant-eval::eval_field-loop-j l = fields.Down l.t l.work l.frame l.trace l.at l.d l.next l.initial.u l.u l.j

abbrev pub invariant-eval::eval_list-loop-i : goal.invariant-eval::eval_list-loop-i
invariant-eval::eval_list-loop-i l = walks.Rest l.t l.initial.work l.frame l.initial.trace l.initial.q l.n l.work l.trace l.vs l.q l.i

abbrev pub decreases-call::eval_call : goal.decreases-call::eval_call
decreases-call::eval_call l = μ l.p 4

abbrev pub decreases-call::invoke : goal.decreases-call::invoke
decreases-call::invoke l = μ-call l.p 2

abbrev pub decreases-call::run_left : goal.decreases-call::run_left
decreases-call::run_left l = μ-call l.p 1

abbrev pub decreases-call::run_right : goal.decreases-call::run_right
decreases-call::run_right l = μ-call l.p 1

abbrev pub decreases-eval::eval : goal.decreases-eval::eval
decreases-eval::eval l = μ l.p 1

abbrev pub decreases-eval::eval_field : goal.decreases-eval::eval_field
decreases-eval::eval_field l = μ l.p 3

abbrev pub decreases-eval::eval_item : goal.decreases-eval::eval_item
decreases-eval::eval_item l = μ l.p 2

abbrev pub decreases-eval::eval_list : goal.decreases-eval::eval_list
decreases-eval::eval_list l = μ l.p 3

abbrev pub decreases-eval::eval_new : goal.decreases-eval::eval_new
decreases-eval::eval_new l = μ l.p 4

abbrev pub decreases-number::eval_choose : goal.decreases-number::eval_choose
decreases-number::eval_choose l = μ l.p 4

abbrev pub decreases-number::eval_combine : goal.decreases-number::eval_combine
decreases-number::eval_combine l = μ l.p 4

abbrev pub decreases-number::eval_number : goal.decreases-number::eval_number
decreases-number::eval_number l = μ l.p 0
