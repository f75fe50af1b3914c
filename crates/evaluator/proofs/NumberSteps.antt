-- Sums, differences and choices: what the functions ask of one another, and one law for each of their returns.
-- Not here: what they mean (NumberLaws).
use Rattle.evaluator.specs.declared.trace.Trace.{Trace}
use Rattle.std.proofs.Common.{ℕ, arith, ◌≡◌, refl, sym, ap, ◌∙◌, subst, List, length}
use Rattle.classes.specs.declared.shape.Operation.{Operation}
use Rattle.classes.specs.Skipping.{Skipped}
use Rattle.std.specs.declared.result.Result.TheVariants.{Ok, Err}
use Rattle.evaluator.specs.declared.Stop.{Stop}
use Rattle.evaluator.specs.declared.frame.Frame.{Frame}
use Rattle.evaluator.specs.declared.spot.Spot.{Spot}
use Rattle.evaluator.specs.declared.Counted.{Counted}
use Rattle.evaluator.specs.Answers.{Done, Operand, out_with, operand_of, stops_as, combined, passed_over}
use Rattle.evaluator.specs.Evaluation.{Evaluates}
use Rattle.evaluator.specs.Spots.{moved_spot}
use Rattle.evaluator.specs.Steps.{Traced, Runnable, PartRunnable, EvalStep, CombineStep, ChooseStep}
use Rattle.evaluator.proofs.Keeping.{based_kept, frame_kept, trace_kept}
use Rattle.evaluator.proofs.TraceLaws.{traced_then, calls_on, evaluates_on}
use Rattle.evaluator.proofs.NumberLaws.{combine_halt, combine_second, choose_halt, choose_second, choose_first}

-- ---- after an evaluation
module _ (T W : List ℕ) (f : Frame) (S : Trace) (p : Spot) (W1 : List ℕ) (S1 : Trace) (o : Done) (ev : EvalStep T W f S p W1 S1 o) where
  pub operand_length : length W1 ≡ length W
  operand_length = ev.runs.kept.same

  pub both_length : (q : Spot) (W2 : List ℕ) (S2 : Trace) (o2 : Done) → EvalStep T W1 f S1 q W2 S2 o2 → length W2 ≡ length W
  both_length q W2 S2 o2 ev2 = ev2.runs.kept.same ∙ operand_length

  -- what follows is evaluated at the same block
  pub follow-run : PartRunnable W f S p → (at : ℕ) (q : Spot) → q ≡ moved_spot p at p.block → Runnable W1 f S1 q
  follow-run run at q eq = subst (Runnable W1 f S1) (sym eq) (
      let k = ev.runs.kept in
      let h = run.fits in
      let room = h.room in
      record {
        based = based_kept W W1 p.block p.block k (omega arith) run.based;
        count = run.count;
        fits = record {
          frame = frame_kept W W1 p.block k f h.frame;
          trace = calls_on p.opened S S1 ev.trace W1 p.block (trace_kept W W1 p.block k S p.opened h.trace);
          calls = h.calls;
          limit = h.limit;
          room = omega arith;
          long = omega (arith, h.long, k.same);
        };
      })

-- ---- the first operand, or what a choice goes by, was evaluated to o, which is the operand a
module _ (T W : List ℕ) (f : Frame) (S : Trace) (p : Spot) (run : PartRunnable W f S p) (W1 : List ℕ) (S1 : Trace) (o : Done) (ev : EvalStep T W f S p W1 S1 o) (a : Operand) (ea : a ≡ operand_of o) where
  module _ (s : Stop) (eh : a ≡ Err s) (r : Done) (er : r ≡ stops_as a) where
    halts : Err s ≡ r
    halts = sym (er ∙ ap stops_as eh)

    pub combine_refused : (x : Operation) → CombineStep T W f S p x W1 S1 r
    combine_refused x = subst (CombineStep T W f S p x W1 S1) halts (record {
      trace = ev.trace;
      runs = combine_halt T W f S p.opened p.at p.nesting p.objects p.calls p.block S.fuel W1 o S1.fuel ev.runs s (sym ea ∙ eh) x;
    })

    pub choose_refused : ChooseStep T W f S p W1 S1 r
    choose_refused = subst (ChooseStep T W f S p W1 S1) halts (record {
      trace = ev.trace;
      runs = choose_halt T W f S p.opened p.at p.nesting p.objects p.calls p.block S.fuel W1 o S1.fuel ev.runs s (sym ea ∙ eh);
    })

  -- what follows was evaluated to o2, at a place
  module _ (place : ℕ) (q : Spot) (eq : q ≡ moved_spot p place p.block) (W2 : List ℕ) (S2 : Trace) (o2 : Done) (ev2 : EvalStep T W1 f S1 q W2 S2 o2) where
    second : EvalStep T W1 f S1 (moved_spot p place p.block) W2 S2 o2
    second = subst (λ (r : Spot). EvalStep T W1 f S1 r W2 S2 o2) eq ev2

    both : Traced p.opened S S2
    both = traced_then p.opened S S1 S2 ev.trace second.trace

    -- with the open calls as they were
    second_on : Evaluates T W1 f S p.opened place p.nesting p.objects p.calls p.block S1.fuel W2 (out_with S2.fuel o2)
    second_on = evaluates_on p.opened S S1 ev.trace T W1 f place p.nesting p.objects p.calls p.block S1.fuel W2 (out_with S2.fuel o2) second.runs

    -- ---- the branch for 0
    pub choose_zero : (got : Counted) → a ≡ Ok got → got.number ≡ 0 → Skipped T got.next place → (r : Done) → r ≡ o2 → ChooseStep T W f S p W2 S2 r
    choose_zero got en z sk r er = subst (ChooseStep T W f S p W2 S2) (sym er) (record {
      trace = both;
      runs = choose_second T W f S p.opened p.at p.nesting p.objects p.calls p.block S.fuel W1 o S1.fuel ev.runs got.number got.next (sym ea ∙ en)
          run.fits.frame run.fits.trace place W2 (out_with S2.fuel o2) second_on z sk.is;
    })

  -- the same at the place after the operand
  module _ (got : Counted) (en : a ≡ Ok got) (q : Spot) (eq : q ≡ moved_spot p got.next p.block) (W2 : List ℕ) (S2 : Trace) (o2 : Done) (ev2 : EvalStep T W1 f S1 q W2 S2 o2) where
    -- ---- the second operand
    pub combine_gives : (x : Operation) (r : Done) → r ≡ combined x got.number (operand_of o2) → CombineStep T W f S p x W2 S2 r
    combine_gives x r er = subst (CombineStep T W f S p x W2 S2) (sym er) (record {
      trace = both got.next q eq W2 S2 o2 ev2;
      runs = combine_second T W f S p.opened p.at p.nesting p.objects p.calls p.block S.fuel W1 o S1.fuel ev.runs got.number got.next (sym ea ∙ en)
          run.fits.frame run.fits.trace W2 o2 S2.fuel (second_on got.next q eq W2 S2 o2 ev2) x;
    })

    -- ---- the other branch
    pub choose_gives : (got.number ≡ 0 → ⊥) → (r : Done) → r ≡ passed_over T o2 → ChooseStep T W f S p W2 S2 r
    choose_gives nz r er = subst (ChooseStep T W f S p W2 S2) (sym er) (record {
      trace = both got.next q eq W2 S2 o2 ev2;
      runs = choose_first T W f S p.opened p.at p.nesting p.objects p.calls p.block S.fuel W1 o S1.fuel ev.runs got.number got.next (sym ea ∙ en)
          run.fits.frame run.fits.trace got.next W2 (out_with S2.fuel o2) (second_on got.next q eq W2 S2 o2 ev2) nz refl o2 S2.fuel refl;
    })
