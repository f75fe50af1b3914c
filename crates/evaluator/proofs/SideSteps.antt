-- A method called and its two sides: what the functions ask of one another, and one law for each return of `invoke`, `run_right` and `run_left`.
-- Not here: the receiver and the arguments (CallSteps), what sides mean (BodyLaws).
use Rattle.std.proofs.Common.{ℕ, ◌+◌, ◌-◌, ◌*◌, ◌≤◌, ◌<◌, arith, ◌≡◌, refl, sym, ap, ◌∙◌, subst, List, length}
use Rattle.canon.specs.Figures.{mark_count, block_size}
use Rattle.cofj.specs.Limits.{nesting_limit}
use Rattle.cofj.specs.Running.{open_mark}
use Rattle.classes.specs.Machine.{left_of, right_of}
use Rattle.values.specs.declared.ValueRef.{ValueRef}
use Rattle.values.specs.declared.ValueRef.TheVariants.{Mark}
use Rattle.values.specs.Layout.{value_of, Holds}
use Rattle.values.specs.Operations.{Gives, close_of}
use Rattle.maker.specs.Laying.{values_from}
use Rattle.std.specs.declared.result.Result.TheVariants.{Ok, Err}
use Rattle.evaluator.specs.Figures.{call_limit}
use Rattle.evaluator.specs.declared.Stop.{Stop}
use Rattle.evaluator.specs.declared.Stop.TheVariants.{NoFuel, TooDeep}
use Rattle.evaluator.specs.declared.spot.Spot.{Spot}
use Rattle.std.specs.declared.option.Option.{Option as RustOption}
use Rattle.std.specs.declared.option.Option.TheVariants.{Some, None}
use Rattle.evaluator.specs.declared.frame.Frame.{Frame}
use Rattle.evaluator.specs.declared.trace.Trace.{Trace}
use Rattle.evaluator.specs.declared.trace.OpenCall.{OpenCall}
use Rattle.evaluator.specs.State.{side_call, CallPut, CallHolds, CallsHold, trace_in, met_of}
use Rattle.evaluator.specs.Frames.{body_frame}
use Rattle.evaluator.specs.declared.Evaluated.{Evaluated}
use Rattle.evaluator.specs.Answers.{Done, value_at, out_with}
use Rattle.evaluator.specs.Spots.{body_spot}
use Rattle.evaluator.specs.Evaluation.{Evaluates}
use Rattle.evaluator.specs.Calling.{CallFits}
use Rattle.evaluator.specs.Steps.{Traced, Based, Runnable, CallRunnable, BodyRunnable, mark_in, MarkGiven, EvalStep, InvokeStep, RightStep, LeftStep}
use Rattle.evaluator.proofs.Keeping.{parts_held}
use Rattle.evaluator.proofs.Given.{given_older}
use Rattle.evaluator.proofs.TraceLaws.{traced_none, traced_then, traced_down, calls_on, invokes_on}
use Rattle.evaluator.proofs.BodyLaws.{put_traced, right_halt, right_value, left_halt, left_value}
use Rattle.evaluator.proofs.InvokeLaws.{invoke_fuel, invoke_deep, invoke_right, invoke_left}
use Rattle.evaluator.proofs.FitLaws as fits

-- ---- a method called (invoke)
module _ (W : List ℕ) (S : Trace) (c : OpenCall) (p : Spot) (run : CallRunnable W S c p) where
  pub call_few : c.n ≤ 3
  call_few = run.fits.few

  pub spent_call : CallHolds W c
  spent_call = let few = run.fits.few in record {
    receiver = run.fits.receiver.held;
    args = parts_held W (p.block + 4) c.args c.n run.fits.args;
    few = omega arith;
  }

  -- a unit spent
  abbrev less : Trace
  less = record { calls = S.calls; fuel = S.fuel - 1 }

  spent_trace : Traced p.opened S less
  spent_trace = record { calls = λ i l. refl; spent = omega arith }

  spent_fits : CallFits W less p.opened c.receiver c.args c.n p.objects p.calls p.block
  spent_fits = record {
    trace = calls_on p.opened S less spent_trace W p.block run.fits.trace;
    receiver = run.fits.receiver;
    args = run.fits.args;
    few = run.fits.few;
    calls = run.fits.calls;
    limit = run.fits.limit;
    room = run.fits.room;
    long = run.fits.long;
  }

  pub spent_calls : CallsHold W (record { calls = S.calls; fuel = S.fuel - 1 }) p.opened
  spent_calls = fits.calls_held W less p.opened c.receiver c.args c.n p.objects p.calls p.block spent_fits

  pub spent_body : (p.calls ≡ 0 → ⊥) → BodyRunnable W (record { calls = S.calls; fuel = S.fuel - 1 }) c p
  spent_body nd = record {
    based = run.based;
    mark = run.mark;
    fits = fits.body_fit W less p.opened c.receiver c.args c.n p.objects p.calls p.block spent_fits nd;
    deep = nd;
  }

  pub spent_mark : (h : RustOption ValueRef) → h ≡ met_of (open_mark (trace_in W (record { calls = S.calls; fuel = S.fuel - 1 }) p.opened) (value_of W c.receiver) c.name (values_from W c.args 0 c.n))
      → (y : ValueRef) → h ≡ Some y → MarkGiven y
  spent_mark h e y q = fits.mark_given W less p.opened c.receiver c.args c.n p.objects p.calls p.block c.name h spent_fits e y q

  module _ (T : List ℕ) (i : ℕ) where
    pub invoke_stops : S.fuel ≡ 0 → InvokeStep T W S c i p W S (Err NoFuel)
    invoke_stops z = record { trace = traced_none p.opened S; runs = invoke_fuel T W S p.opened c.receiver c.args c.n i p.at p.objects p.calls p.block S.fuel c.name z }

    module _ (nf : S.fuel ≡ 0 → ⊥) where
      pub invoke_sinks : p.calls ≡ 0 → InvokeStep T W S c i p W (record { calls = S.calls; fuel = S.fuel - 1 }) (Err TooDeep)
      invoke_sinks z = record {
        trace = spent_trace;
        runs = invoke_deep T W S p.opened c.receiver c.args c.n i p.at p.objects p.calls p.block S.fuel c.name nf z;
      }

      module _ (nd : p.calls ≡ 0 → ⊥) (h : RustOption ValueRef) (eh : h ≡ met_of (open_mark (trace_in W (record { calls = S.calls; fuel = S.fuel - 1 }) p.opened) (value_of W c.receiver) c.name (values_from W c.args 0 c.n)))
          (W' : List ℕ) (S' : Trace) (o : Done) where
        pub invoke_goes_right : (y : ValueRef) → h ≡ Some y → RightStep T W (record { calls = S.calls; fuel = S.fuel - 1 }) c i p y W' S' o → InvokeStep T W S c i p W' S' o
        invoke_goes_right y ey r = record {
          trace = traced_then p.opened S less S' spent_trace r.trace;
          runs = invokes_on p.opened S less spent_trace T W c.receiver c.args c.n i p.at p.objects p.calls p.block S.fuel c.name W' (out_with S'.fuel o)
              (invoke_right T W less p.opened c.receiver c.args c.n i p.at p.objects p.calls p.block S.fuel c.name nf nd h eh W' (out_with S'.fuel o) y ey
              r.runs);
        }

        pub invoke_goes_left : h ≡ None → LeftStep T W (record { calls = S.calls; fuel = S.fuel - 1 }) c i p W' S' o → InvokeStep T W S c i p W' S' o
        invoke_goes_left ea l = record {
          trace = traced_then p.opened S less S' spent_trace l.trace;
          runs = invokes_on p.opened S less spent_trace T W c.receiver c.args c.n i p.at p.objects p.calls p.block S.fuel c.name W' (out_with S'.fuel o)
              (invoke_left T W less p.opened c.receiver c.args c.n i p.at p.objects p.calls p.block S.fuel c.name nf nd h eh W' (out_with S'.fuel o) ea
              l.runs);
        }

-- ---- a side (run_right, run_left)
module _ (W : List ℕ) (S : Trace) (c : OpenCall) (p : Spot) (run : BodyRunnable W S c p) where
  pub body_deep : 0 < p.calls
  body_deep = omega (arith, run.deep)

  pub body_block : p.block + 4 < 65536
  body_block = let r = run.fits.room in omega arith

  pub body_top : p.opened < call_limit
  body_top = fits.push_room W S p.opened c.receiver c.args c.n p.objects (p.calls - 1) p.block run.fits

  pub body_mark : p.opened < mark_count
  body_mark = let t = body_top in omega arith

  body_based : Based W (p.block + 4)
  body_based = let a = run.based.above in record { fieldless = run.based.fieldless; above = omega arith }

-- ---- the right side
module _ (T W : List ℕ) (S : Trace) (c : OpenCall) (i : ℕ) (p : Spot) (mark : ValueRef) (run : BodyRunnable W S c p) (given : MarkGiven mark)
    (f : Frame) (owner : ℕ) (ef : f ≡ body_frame c.receiver (Some mark) c.args c.n owner) (at : ℕ) (ea : at ≡ right_of T i) (q : Spot) (es : q ≡ body_spot p at p.opened) where
  right_place : q ≡ body_spot p (right_of T i) p.opened
  right_place = es ∙ ap (λ (a : ℕ). body_spot p a p.opened) ea

  pub right_run : Runnable W f S q
  right_run = subst (λ (y : Spot). Runnable W f S y) (sym right_place) (subst (λ (g : Frame). Runnable W g S (body_spot p (right_of T i) p.opened)) (sym ef) (record {
    based = body_based W S c p run;
    count = run.fits.few;
    fits = fits.right_fit W S p.opened c.receiver c.args c.n p.objects (p.calls - 1) p.block run.fits mark owner given;
  }))

  module _ (W1 : List ℕ) (S1 : Trace) (o : Done) (ran : EvalStep T W f S q W1 S1 o) where
    right_side : EvalStep T W (body_frame c.receiver (Some (Mark (mark_in mark))) c.args c.n owner) S (body_spot p (right_of T i) p.opened) W1 S1 o
    right_side =
        subst (λ (g : Frame). EvalStep T W g S (body_spot p (right_of T i) p.opened) W1 S1 o) (ef ∙ ap (λ (r : ValueRef). body_frame c.receiver (Some r) c.args c.n owner) given.is)
        (subst (λ (y : Spot). EvalStep T W f S y W1 S1 o) right_place ran)

    pub right_stops : (s : Stop) → o ≡ Err s → RightStep T W S c i p mark W1 S1 o
    right_stops s e = record {
      trace = right_side.trace;
      runs = right_halt T W S p.opened c.receiver c.args c.n owner i p.at p.objects (p.calls - 1) p.block S.fuel (mark_in mark) (right_of T i) refl W1 (out_with S1.fuel o) right_side.runs s S1.fuel (ap (out_with S1.fuel) e);
    }

    module _ (got : Evaluated) (eo : o ≡ Ok got) where
      pub right_there : Holds W1 got.value
      right_there =
          (given_older T W (body_frame c.receiver (Some (Mark (mark_in mark))) c.args c.n owner) S p.opened (right_of T i) nesting_limit p.objects (p.calls - 1) (p.block + 4) S.fuel W1 (out_with S1.fuel o) right_side.runs got.value got.next S1.fuel
          (ap (out_with S1.fuel) eo)).held

      pub right_room : block_size * p.block + block_size ≤ length W1
      right_room = let r = run.fits.room in omega (arith, run.fits.long, right_side.runs.kept.same)

      pub right_gives : (W2 : List ℕ) (r : ValueRef) → Gives W1 p.block W2 r (value_of W1 got.value) → RightStep T W S c i p mark W2 S1 (value_at r p.at)
      right_gives W2 r g = record {
        trace = right_side.trace;
        runs = right_value T W S p.opened c.receiver c.args c.n owner i p.at p.objects (p.calls - 1) p.block S.fuel (mark_in mark) (right_of T i) refl W1 (out_with S1.fuel o) right_side.runs got.value got.next S1.fuel W2 r
            (ap (out_with S1.fuel) eo) g;
      }

-- ---- the left side
module _ (T W : List ℕ) (S : Trace) (c : OpenCall) (i : ℕ) (p : Spot) (run : BodyRunnable W S c p)
    (S1 : Trace) (put : CallPut S p.opened c S1)
    (f : Frame) (owner : ℕ) (ef : f ≡ body_frame c.receiver None c.args c.n owner) (at : ℕ) (ea : at ≡ left_of T i) (q : Spot) (es : q ≡ body_spot p at (p.opened + 1)) where
  left_place : q ≡ body_spot p (left_of T i) (p.opened + 1)
  left_place = es ∙ ap (λ (a : ℕ). body_spot p a (p.opened + 1)) ea

  opens : CallPut S p.opened (side_call c.receiver c.name c.args c.n p.opened) S1
  opens = subst (λ (x : OpenCall). CallPut S p.opened x S1) (λ j. record { receiver = c.receiver; name = c.name; args = c.args; n = c.n; gives = run.mark j }) put

  open_trace : Traced p.opened S S1
  open_trace = put_traced S p.opened (side_call c.receiver c.name c.args c.n p.opened) S1 opens

  open_fuel : S1.fuel ≡ S.fuel
  open_fuel = opens.fuel

  pub left_run : Runnable W f S1 q
  left_run = subst (λ (y : Spot). Runnable W f S1 y) (sym left_place) (subst (λ (g : Frame). Runnable W g S1 (body_spot p (left_of T i) (p.opened + 1))) (sym ef) (record {
    based = body_based W S c p run;
    count = run.fits.few;
    fits = fits.left_fit W S p.opened c.receiver c.args c.n p.objects (p.calls - 1) p.block run.fits c.name owner S1 opens;
  }))

  module _ (W1 : List ℕ) (S2 : Trace) (o : Done) (ran : EvalStep T W f S1 q W1 S2 o) where
    left_side : EvalStep T W (body_frame c.receiver None c.args c.n owner) S1 (body_spot p (left_of T i) (p.opened + 1)) W1 S2 o
    left_side = subst (λ (g : Frame). EvalStep T W g S1 (body_spot p (left_of T i) (p.opened + 1)) W1 S2 o) ef (subst (λ (y : Spot). EvalStep T W f S1 y W1 S2 o) left_place ran)

    left_evaluates : Evaluates T W (body_frame c.receiver None c.args c.n owner) S1 (p.opened + 1) (left_of T i) nesting_limit p.objects (p.calls - 1) (p.block + 4) S.fuel W1 (out_with S2.fuel o)
    left_evaluates = subst (λ (u : ℕ). Evaluates T W (body_frame c.receiver None c.args c.n owner) S1 (p.opened + 1) (left_of T i) nesting_limit p.objects (p.calls - 1) (p.block + 4) u W1 (out_with S2.fuel o)) open_fuel left_side.runs

    left_trace : Traced p.opened S S2
    left_trace = traced_then p.opened S S1 S2 open_trace (traced_down p.opened (p.opened + 1) S1 S2 (omega arith) left_side.trace)

    pub left_stops : (s : Stop) → o ≡ Err s → LeftStep T W S c i p W1 S2 o
    left_stops s e = record {
      trace = left_trace;
      runs = left_halt T W S p.opened c.receiver c.args c.n owner i p.at p.objects (p.calls - 1) p.block S.fuel c.name S1 opens (left_of T i) refl W1 (out_with S2.fuel o) left_evaluates s S2.fuel (ap (out_with S2.fuel) e);
    }

    module _ (got : Evaluated) (eo : o ≡ Ok got) where
      pub left_there : Holds W1 got.value
      left_there =
          (given_older T W (body_frame c.receiver None c.args c.n owner) S1 (p.opened + 1) (left_of T i) nesting_limit p.objects (p.calls - 1) (p.block + 4) S.fuel W1 (out_with S2.fuel o) left_evaluates got.value got.next S2.fuel
          (ap (out_with S2.fuel) eo)).held

      pub left_room : block_size * p.block + block_size ≤ length W1
      left_room = let r = run.fits.room in omega (arith, run.fits.long, left_evaluates.kept.same)

      pub left_gives : (W2 : List ℕ) (r : ValueRef) → Gives W1 p.block W2 r (close_of p.opened (value_of W1 got.value)) → LeftStep T W S c i p W2 S2 (value_at r p.at)
      left_gives W2 r g = record {
        trace = left_trace;
        runs = left_value T W S p.opened c.receiver c.args c.n owner i p.at p.objects (p.calls - 1) p.block S.fuel c.name S1 opens (left_of T i) refl W1 (out_with S2.fuel o) left_evaluates got.value got.next S2.fuel W2 r
            (ap (out_with S2.fuel) eo) g;
      }
