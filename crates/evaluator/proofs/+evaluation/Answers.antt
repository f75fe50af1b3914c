-- The proof of the cycle of evaluation, twelve functions. At each call the number μ falls (FallLaws): a call that is opened takes one from the calls that may be
-- opened, a part takes one from the nesting left, and otherwise the functions come in the order eval_number, eval, eval_item, eval_field and eval_list, the others.
-- Each return is a law of StepLaws, NewSteps, FieldLaws, WalkLaws, NumberSteps, CallSteps or SideSteps.
use Rattle.std.proofs.Common.{rules, refl}
use Rattle.evaluator.proofs.StepLaws as steps
use Rattle.evaluator.proofs.NewSteps as news
use Rattle.evaluator.proofs.WalkLaws as walks
use Rattle.evaluator.proofs.FieldLaws as fields
use Rattle.evaluator.proofs.NumberSteps as numbers
use Rattle.evaluator.proofs.AnswerLaws as answers
use Rattle.evaluator.proofs.CallSteps as calls
use Rattle.evaluator.proofs.SideSteps as sides
use Rattle.evaluator.proofs.FallLaws as fall
use Rattle.evaluator.proofs.+evaluation.Goals as goal

pub call::eval_call-returns-then-p-eq0 : goal.call::eval_call-returns-then-p-eq0
call::eval_call-returns-then-p-eq0 t c = search calls.call_nested

pub call::eval_call-eval-o-requires : goal.call::eval_call-eval-o-requires
call::eval_call-eval-o-requires t c = (search fall.call_eval_falls, search steps.run_inner)

pub call::eval_call-returns-in_default : goal.call::eval_call-returns-in_default
call::eval_call-returns-in_default t c = search calls.call_stops

pub call::eval_call-find-w-requires : goal.call::eval_call-find-w-requires
call::eval_call-find-w-requires t c = search calls.receiver_there

pub call::eval_call-returns-in_default-w : goal.call::eval_call-returns-in_default-w
call::eval_call-returns-in_default-w t c = search calls.call_lacks

pub call::eval_call-invoke-requires : goal.call::eval_call-invoke-requires
call::eval_call-invoke-requires t c = (
  search fall.call_invoke_falls,
  calls.bare_asked _ _ _ _ _ c.requires _ _ _ _ _ c.eval-o.ensures _ _ c.in-Ok.is _ c.find-w.ensures c.if-p-eq0.false _ c.in-Some.is
      c.if-n-eq0.true _ _ c.side_call-bare.ensures _ c.moved.ensures,
)

pub call::eval_call-shape_of-work-then-n-eq0 : goal.call::eval_call-shape_of-work-then-n-eq0
call::eval_call-shape_of-work-then-n-eq0 t c = calls.bare_length _ _ _ _ _ _ _ _ c.eval-o.ensures _ _ _ _ _ _ c.invoke.ensures

pub call::eval_call-returns-then-n-eq0 : goal.call::eval_call-returns-then-n-eq0
call::eval_call-returns-then-n-eq0 t c =
    calls.bare_done _ _ _ _ _ c.requires _ _ _ _ _ c.eval-o.ensures _ _ c.in-Ok.is _ c.find-w.ensures c.if-p-eq0.false _ c.in-Some.is
    c.if-n-eq0.true _ _ c.side_call-bare.ensures _ c.moved.ensures _ _ _ c.invoke.ensures _ refl

pub call::eval_call-overflow_add-p : goal.call::eval_call-overflow_add-p
call::eval_call-overflow_add-p t c = search calls.call_block

pub call::eval_call-eval_list-l-requires : goal.call::eval_call-eval_list-l-requires
call::eval_call-eval_list-l-requires t c = (
  search fall.call_list_falls,
  (calls.list_asked _ _ _ _ _ c.requires _ _ _ _ _ c.eval-o.ensures _ _ c.in-Ok.is _ c.find-w.ensures c.if-p-eq0.false _ c.in-Some.is _ c.moved-2.ensures, search rules),
)

pub call::eval_call-shape_of-work-in_default-l : goal.call::eval_call-shape_of-work-in_default-l
call::eval_call-shape_of-work-in_default-l t c = calls.list_length _ _ _ _ _ _ _ _ c.eval-o.ensures _ _ _ _ _ _ c.eval_list-l.ensures

pub call::eval_call-returns-in_default-l : goal.call::eval_call-returns-in_default-l
call::eval_call-returns-in_default-l t c =
    calls.list_stops _ _ _ _ _ c.requires _ _ _ _ _ c.eval-o.ensures _ _ c.in-Ok.is _ c.find-w.ensures c.if-p-eq0.false _ c.in-Some.is _
    c.moved-2.ensures _ _ _ _ c.eval_list-l.ensures _ c.in_default-l.is _ c.stopped.ensures

pub call::eval_call-invoke-requires-2 : goal.call::eval_call-invoke-requires-2
call::eval_call-invoke-requires-2 t c = (
  search fall.call_invoke_falls,
  calls.call_asked _ _ _ _ _ c.requires _ _ _ _ _ c.eval-o.ensures _ _ c.in-Ok.is _ c.find-w.ensures c.if-p-eq0.false _ c.in-Some.is _
      c.moved-2.ensures _ _ _ _ c.eval_list-l.ensures _ c.in-Ok-l.is _ c.side_call-c.ensures _ c.moved-3.ensures,
)

pub call::eval_call-shape_of-work : goal.call::eval_call-shape_of-work
call::eval_call-shape_of-work t c = calls.invoke-length _ _ _ _ _ _ _ _ c.eval-o.ensures _ _ _ _ _ _ c.eval_list-l.ensures _ _ _ _ _ _ c.invoke-2.ensures

pub call::eval_call-returns : goal.call::eval_call-returns
call::eval_call-returns t c =
    calls.call_done _ _ _ _ _ c.requires _ _ _ _ _ c.eval-o.ensures _ _ c.in-Ok.is _ c.find-w.ensures c.if-p-eq0.false _ c.in-Some.is _
    c.moved-2.ensures _ _ _ _ c.eval_list-l.ensures _ c.in-Ok-l.is _ c.side_call-c.ensures _ c.moved-3.ensures _ _ _ c.invoke-2.ensures _ refl

pub call::invoke-returns-then-fuel-eq0 : goal.call::invoke-returns-then-fuel-eq0
call::invoke-returns-then-fuel-eq0 t c = search sides.invoke_stops

pub call::invoke-returns-then-p-eq0 : goal.call::invoke-returns-then-p-eq0
call::invoke-returns-then-p-eq0 t c = search sides.invoke_sinks

pub call::invoke-open_call-h-requires : goal.call::invoke-open_call-h-requires
call::invoke-open_call-h-requires t c = (search sides.spent_calls, search sides.spent_call, search sides.call_few)

pub call::invoke-run_right-requires : goal.call::invoke-run_right-requires
call::invoke-run_right-requires t c = (search fall.invoke_side_falls, (search sides.spent_body, search sides.spent_mark))

pub call::invoke-run_left-requires : goal.call::invoke-run_left-requires
call::invoke-run_left-requires t c = (search fall.invoke_side_falls, search sides.spent_body)

pub call::invoke-returns-in-Some : goal.call::invoke-returns-in-Some
call::invoke-returns-in-Some t c = search sides.invoke_goes_right

pub call::invoke-returns-in-None : goal.call::invoke-returns-in-None
call::invoke-returns-in-None t c = search sides.invoke_goes_left

pub call::run_left-push-requires : goal.call::run_left-push-requires
call::run_left-push-requires t c = search sides.body_top

pub call::run_left-body-requires : goal.call::run_left-body-requires
call::run_left-body-requires t c = (search sides.body_deep, search rules, search sides.body_block)

pub call::run_left-eval-o-requires : goal.call::run_left-eval-o-requires
call::run_left-eval-o-requires t c = (search fall.side_eval_falls, search sides.left_run)

pub call::run_left-returns-in_default : goal.call::run_left-returns-in_default
call::run_left-returns-in_default t c = search sides.left_stops

pub call::run_left-close-requires : goal.call::run_left-close-requires
call::run_left-close-requires t c = (search sides.left_there, search (rules, sides.body_mark), search sides.left_room)

pub call::run_left-returns : goal.call::run_left-returns
call::run_left-returns t c = search sides.left_gives

pub call::run_right-body-requires : goal.call::run_right-body-requires
call::run_right-body-requires t c = (search sides.body_deep, search rules, search sides.body_block)

pub call::run_right-eval-o-requires : goal.call::run_right-eval-o-requires
call::run_right-eval-o-requires t c = (search fall.side_eval_falls, search sides.right_run)

pub call::run_right-returns-in_default : goal.call::run_right-returns-in_default
call::run_right-returns-in_default t c = search sides.right_stops

pub call::run_right-bring-requires : goal.call::run_right-bring-requires
call::run_right-bring-requires t c = (search sides.right_there, search sides.right_room)

pub call::run_right-returns : goal.call::run_right-returns
call::run_right-returns t c = search sides.right_gives

pub eval::eval-returns-then-p-eq0 : goal.eval::eval-returns-then-p-eq0
eval::eval-returns-then-p-eq0 t c = search steps.step_zero

pub eval::eval-answer-requires : goal.eval::eval-answer-requires
eval::eval-answer-requires t c = search steps.next_this

pub eval::eval-answer-requires-in-Result : goal.eval::eval-answer-requires-in-Result
eval::eval-answer-requires-in-Result t c = search steps.next_result

pub eval::eval-answer-requires-in-Parameter : goal.eval::eval-answer-requires-in-Parameter
eval::eval-answer-requires-in-Parameter t c = search steps.next_parameter

pub eval::eval-inner-requires : goal.eval::eval-inner-requires
eval::eval-inner-requires t c = (search rules, search steps.next_field)

pub eval::eval-eval_field-requires : goal.eval::eval-eval_field-requires
eval::eval-eval_field-requires t c = (search fall.eval_field_falls, search steps.part_field)

pub eval::eval-inner-requires-in-Call : goal.eval::eval-inner-requires-in-Call
eval::eval-inner-requires-in-Call t c = (search rules, search steps.next_call)

pub eval::eval-eval_call-requires : goal.eval::eval-eval_call-requires
eval::eval-eval_call-requires t c = (search fall.eval_call_falls, search steps.part_call)

pub eval::eval-inner-requires-in-New : goal.eval::eval-inner-requires-in-New
eval::eval-inner-requires-in-New t c = (search rules, search steps.next_new)

pub eval::eval-eval_new-requires : goal.eval::eval-eval_new-requires
eval::eval-eval_new-requires t c = (search fall.eval_new_falls, search steps.part_new)

pub eval::eval-eval_number-requires : goal.eval::eval-eval_number-requires
eval::eval-eval_number-requires t c = (search fall.eval_number_falls, search steps.number_asked)

pub eval::eval-returns-in-This : goal.eval::eval-returns-in-This
eval::eval-returns-in-This t c = search steps.step_this

pub eval::eval-returns-in-Result : goal.eval::eval-returns-in-Result
eval::eval-returns-in-Result t c = search steps.step_result

pub eval::eval-returns-in-Parameter : goal.eval::eval-returns-in-Parameter
eval::eval-returns-in-Parameter t c = search steps.step_parameter

pub eval::eval-returns-in-Field : goal.eval::eval-returns-in-Field
eval::eval-returns-in-Field t c = search steps.step_field

pub eval::eval-returns-in-Call : goal.eval::eval-returns-in-Call
eval::eval-returns-in-Call t c = search steps.step_call

pub eval::eval-returns-in-New : goal.eval::eval-returns-in-New
eval::eval-returns-in-New t c = search steps.step_new

pub eval::eval-returns-in_default : goal.eval::eval-returns-in_default
eval::eval-returns-in_default t c = search steps.step_again

pub eval::eval_field-eval-o-requires : goal.eval::eval_field-eval-o-requires
eval::eval_field-eval-o-requires t c = (search fall.field_eval_falls, search fields.fields_run)

pub eval::eval_field-returns-in_default : goal.eval::eval_field-returns-in_default
eval::eval_field-returns-in_default t c = search fields.fields_stop

pub eval::eval_field-loop-j-init : goal.eval::eval_field-loop-j-init
eval::eval_field-loop-j-init t c = search fields.down_all

pub eval::eval_field-bounds-t-at : goal.eval::eval_field-bounds-t-at
eval::eval_field-bounds-t-at t c = search fields.down_index

pub eval::eval_field-select-s-requires : goal.eval::eval_field-select-s-requires
eval::eval_field-select-s-requires t c =
    fields.down_held _ _ _ _ _ _ _ _ _ _ c.loop-j.invariant _ _ _ c.requires refl c.fields_at-d.ensures _ c.down.ensures _ c.eval-o.ensures
    c.in-Ok.is

pub eval::eval_field-returns-in_default-s : goal.eval::eval_field-returns-in_default-s
eval::eval_field-returns-in_default-s t c =
    fields.down_stops _ _ _ _ _ _ _ _ _ _ c.loop-j.invariant _ _ _ c.requires refl c.fields_at-d.ensures _ c.down.ensures _ c.eval-o.ensures
    c.in-Ok.is (search rules) c.loop-j-test.true _ _ c.select-s.ensures c.in_default-s.is

pub eval::eval_field-loop-j-preserved : goal.eval::eval_field-loop-j-preserved
eval::eval_field-loop-j-preserved t c = search fields.down_again

pub eval::eval_field-select-s-requires-2 : goal.eval::eval_field-select-s-requires-2
eval::eval_field-select-s-requires-2 t c =
    fields.down_held _ _ _ _ _ _ _ _ _ _ c.loop-j.invariant _ _ _ c.requires refl c.fields_at-d.ensures _ c.down.ensures _ c.eval-o.ensures
    c.in-Ok.is

pub eval::eval_field-returns-in_default-s-2 : goal.eval::eval_field-returns-in_default-s-2
eval::eval_field-returns-in_default-s-2 t c =
    fields.down_lacks _ _ _ _ _ _ _ _ _ _ c.loop-j.invariant _ _ _ c.requires refl c.fields_at-d.ensures _ c.down.ensures _ c.eval-o.ensures
    c.in-Ok.is c.loop-j-test.false _ _ c.select-s-2.ensures c.in_default-s-2.is

pub eval::eval_field-returns : goal.eval::eval_field-returns
eval::eval_field-returns t c =
    fields.down_has _ _ _ _ _ _ _ _ _ _ c.loop-j.invariant _ _ _ c.requires refl c.fields_at-d.ensures _ c.down.ensures _ c.eval-o.ensures
    c.in-Ok.is c.loop-j-test.false _ _ c.select-s-2.ensures _ c.in-Some-s.is

pub eval::eval_item-returns-then-p-eq0 : goal.eval::eval_item-returns-then-p-eq0
eval::eval_item-returns-then-p-eq0 t c = search steps.step_zero

pub eval::eval_item-answer-requires : goal.eval::eval_item-answer-requires
eval::eval_item-answer-requires t c = search steps.next_this

pub eval::eval_item-answer-requires-in-Parameter : goal.eval::eval_item-answer-requires-in-Parameter
eval::eval_item-answer-requires-in-Parameter t c = search steps.next_parameter

pub eval::eval_item-literal-requires : goal.eval::eval_item-literal-requires
eval::eval_item-literal-requires t c = search steps.next_number

pub eval::eval_item-inner-requires : goal.eval::eval_item-inner-requires
eval::eval_item-inner-requires t c = (search rules, search steps.next_field)

pub eval::eval_item-eval_field-requires : goal.eval::eval_item-eval_field-requires
eval::eval_item-eval_field-requires t c = (search fall.item_field_falls, search steps.part_field)

pub eval::eval_item-overflow_cast-result : goal.eval::eval_item-overflow_cast-result
eval::eval_item-overflow_cast-result t c = search steps.new_fits

pub eval::eval_item-returns-then-is_preset : goal.eval::eval_item-returns-then-is_preset
eval::eval_item-returns-then-is_preset t c = search news.step_preset

pub eval::eval_item-inner-requires-in-New : goal.eval::eval_item-inner-requires-in-New
eval::eval_item-inner-requires-in-New t c = (search rules, search steps.next_new)

pub eval::eval_item-eval_new-requires : goal.eval::eval_item-eval_new-requires
eval::eval_item-eval_new-requires t c = (search fall.item_new_falls, search steps.part_new)

pub eval::eval_item-eval-requires : goal.eval::eval_item-eval-requires
eval::eval_item-eval-requires t c = (search fall.same_falls, search rules)

pub eval::eval_item-returns-in-This : goal.eval::eval_item-returns-in-This
eval::eval_item-returns-in-This t c = search steps.step_this

pub eval::eval_item-returns-in-Parameter : goal.eval::eval_item-returns-in-Parameter
eval::eval_item-returns-in-Parameter t c = search steps.step_parameter

pub eval::eval_item-returns-in-Number : goal.eval::eval_item-returns-in-Number
eval::eval_item-returns-in-Number t c = search steps.step_number

pub eval::eval_item-returns-in-Field : goal.eval::eval_item-returns-in-Field
eval::eval_item-returns-in-Field t c = search steps.step_field

pub eval::eval_item-returns-else-is_preset : goal.eval::eval_item-returns-else-is_preset
eval::eval_item-returns-else-is_preset t c = search steps.step_new

pub eval::eval_item-returns-in_default : goal.eval::eval_item-returns-in_default
eval::eval_item-returns-in_default t c = search steps.step_again

pub eval::eval_list-loop-i-init : goal.eval::eval_list-loop-i-init
eval::eval_list-loop-i-init t c = search walks.rest_all

pub eval::eval_list-eval_item-o-requires : goal.eval::eval_list-eval_item-o-requires
eval::eval_list-eval_item-o-requires t c = (search fall.list_item_falls, search walks.rest-run)

pub eval::eval_list-shape_of-work-in_default : goal.eval::eval_list-shape_of-work-in_default
eval::eval_list-shape_of-work-in_default t c = search walks.item_length

pub eval::eval_list-returns-in_default : goal.eval::eval_list-returns-in_default
eval::eval_list-returns-in_default t c = search walks.rest_stops

pub eval::eval_list-bounds-vs-i : goal.eval::eval_list-bounds-vs-i
eval::eval_list-bounds-vs-i t c = search walks.rest_index

pub eval::eval_list-past-requires : goal.eval::eval_list-past-requires
eval::eval_list-past-requires t c = search walks.rest_block

pub eval::eval_list-loop-i-preserved : goal.eval::eval_list-loop-i-preserved
eval::eval_list-loop-i-preserved t c = search walks.rest_later

pub eval::eval_list-shape_of-work : goal.eval::eval_list-shape_of-work
eval::eval_list-shape_of-work t c = search walks.rest-length

pub eval::eval_list-returns : goal.eval::eval_list-returns
eval::eval_list-returns t c = search walks.rest_done

pub eval::eval_new-returns-then-is_preset : goal.eval::eval_new-returns-then-is_preset
eval::eval_new-returns-then-is_preset t c = search news.new_preset

pub eval::eval_new-returns-then-field_total-n : goal.eval::eval_new-returns-then-field_total-n
eval::eval_new-returns-then-field_total-n t c = search news.new_unlike

pub eval::eval_new-returns-then-n-gt4 : goal.eval::eval_new-returns-then-n-gt4
eval::eval_new-returns-then-n-gt4 t c = search news.new_over

pub eval::eval_new-eval_list-w-requires : goal.eval::eval_new-eval_list-w-requires
eval::eval_new-eval_list-w-requires t c = (search fall.new_list_falls, (search steps.run_list, search rules))

pub eval::eval_new-returns-in_default : goal.eval::eval_new-returns-in_default
eval::eval_new-returns-in_default t c = search news.new_stops

pub eval::eval_new-finish-requires : goal.eval::eval_new-finish-requires
eval::eval_new-finish-requires t c = (search news.parts_ready, search news.new_limit)

pub eval::eval_new-returns : goal.eval::eval_new-returns
eval::eval_new-returns t c = search news.new_made

pub number::eval_choose-eval-requires : goal.number::eval_choose-eval-requires
number::eval_choose-eval-requires t c = (search fall.call_eval_falls, search steps.run_inner)

pub number::eval_choose-shape_of-work-in_default : goal.number::eval_choose-shape_of-work-in_default
number::eval_choose-shape_of-work-in_default t c = search numbers.operand_length

pub number::eval_choose-returns-in_default : goal.number::eval_choose-returns-in_default
number::eval_choose-returns-in_default t c = search numbers.choose_refused

pub number::eval_choose-overflow_cast-second : goal.number::eval_choose-overflow_cast-second
number::eval_choose-overflow_cast-second t c = search answers.skip_small

pub number::eval_choose-eval-requires-then-x-eq0 : goal.number::eval_choose-eval-requires-then-x-eq0
number::eval_choose-eval-requires-then-x-eq0 t c = (search fall.number_eval_falls, search numbers.follow-run)

pub number::eval_choose-shape_of-work-then-x-eq0 : goal.number::eval_choose-shape_of-work-then-x-eq0
number::eval_choose-shape_of-work-then-x-eq0 t c = search numbers.both_length

pub number::eval_choose-returns-then-x-eq0 : goal.number::eval_choose-returns-then-x-eq0
number::eval_choose-returns-then-x-eq0 t c = search numbers.choose_zero

pub number::eval_choose-eval-requires-2 : goal.number::eval_choose-eval-requires-2
number::eval_choose-eval-requires-2 t c = (search fall.number_eval_falls, search numbers.follow-run)

pub number::eval_choose-shape_of-work : goal.number::eval_choose-shape_of-work
number::eval_choose-shape_of-work t c = search numbers.both_length

pub number::eval_choose-returns : goal.number::eval_choose-returns
number::eval_choose-returns t c = search numbers.choose_gives

pub number::eval_combine-eval-requires : goal.number::eval_combine-eval-requires
number::eval_combine-eval-requires t c = (search fall.call_eval_falls, search steps.run_inner)

pub number::eval_combine-shape_of-work-in_default : goal.number::eval_combine-shape_of-work-in_default
number::eval_combine-shape_of-work-in_default t c = search numbers.operand_length

pub number::eval_combine-returns-in_default : goal.number::eval_combine-returns-in_default
number::eval_combine-returns-in_default t c = search numbers.combine_refused

pub number::eval_combine-eval-second-requires : goal.number::eval_combine-eval-second-requires
number::eval_combine-eval-second-requires t c = (search fall.number_eval_falls, search numbers.follow-run)

pub number::eval_combine-shape_of-work : goal.number::eval_combine-shape_of-work
number::eval_combine-shape_of-work t c = search numbers.both_length

pub number::eval_combine-returns : goal.number::eval_combine-returns
number::eval_combine-returns t c = search numbers.combine_gives

pub number::eval_number-literal-requires : goal.number::eval_number-literal-requires
number::eval_number-literal-requires t c = search steps.next_number

pub number::eval_number-inner-requires : goal.number::eval_number-inner-requires
number::eval_number-inner-requires t c = (search rules, search steps.next_combine)

pub number::eval_number-eval_combine-requires : goal.number::eval_number-eval_combine-requires
number::eval_number-eval_combine-requires t c = (search fall.number_part_falls, search steps.part_combine)

pub number::eval_number-inner-requires-in-Choose : goal.number::eval_number-inner-requires-in-Choose
number::eval_number-inner-requires-in-Choose t c = (search rules, search steps.next_choose)

pub number::eval_number-eval_choose-requires : goal.number::eval_number-eval_choose-requires
number::eval_number-eval_choose-requires t c = (search fall.number_part_falls, search steps.part_choose)

pub number::eval_number-returns-in-Number : goal.number::eval_number-returns-in-Number
number::eval_number-returns-in-Number t c = search steps.step_number

pub number::eval_number-returns-in-Combine : goal.number::eval_number-returns-in-Combine
number::eval_number-returns-in-Combine t c = search steps.step_combine

pub number::eval_number-returns-in-Choose : goal.number::eval_number-returns-in-Choose
number::eval_number-returns-in-Choose t c = search steps.step_choose

pub number::eval_number-returns-in_default : goal.number::eval_number-returns-in_default
number::eval_number-returns-in_default t c = steps.number_nothing _ _ _ _ _ _ c.requires c.in_default.not-Number c.in_default.not-Combine c.in_default.not-Choose
